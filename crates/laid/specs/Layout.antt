-- The layout of a sheet: columns from the highest table down, offers going up, rows from the highest table down, boxes going up.
use Rattle.std.specs.Prelude.{ℕ, zero, suc, ◌+◌, min, max, Bool, if◌then◌else◌, List, [], ◌∷◌, map, length, Some, None, Ok, Err, Option, Result, nat_lt}
use Rattle.std.specs.List.{slice_get}
use Rattle.fault.specs.Numbers.{fault}
use Rattle.fault.specs.declared.Fault.{Fault}
use Rattle.fault.specs.declared.Reason.{Reason}
use Rattle.fault.specs.declared.Reason.TheVariants.{NotOnShelf, TooWide, TooTall, UnfitWidth}
use Rattle.shelf.specs.Shelves.{Meaning, widest, largest}
use Rattle.shelf.specs.Answers.{misfits}
use Rattle.plan.specs.declared.record.Axis.TheVariants.{Columns, Rows}
use Rattle.plan.specs.declared.record.Cell.{Cell}
use Rattle.plan.specs.declared.record.Column.{Column}
use Rattle.plan.specs.declared.record.Holds.{Holds}
use Rattle.plan.specs.declared.record.Holds.TheVariants.{Content, Inner}
use Rattle.plan.specs.declared.record.Rect.{Rect}
use Rattle.plan.specs.declared.record.Table.{Table}
use Rattle.plan.specs.Blank.{no_rect}
use Rattle.columns.specs.Columns.{least_width}
use Rattle.columns.specs.Tables.{own_columns, widths, heights, measured, offered_to, stacked}
use Rattle.columns.specs.Tracks.{begins, whole}
use Rattle.columns.specs.Wants.{Want}
use Rattle.laid.specs.Views.{seen, least_in, greatest_in, height_in, wide_in, tall_in, cell_width, cells_of, holder, cell_at}

-- ---- the columns

-- what a cell asks at least: its content's minimum, or the least width of the table that it holds
abbrev pub least_asked : Meaning → (ℕ → ℕ) → Holds → ℕ
least_asked m least (Content k) = m.minimum k
least_asked m least (Inner u) = min (least u) largest

-- and what it would fill
abbrev pub most_asked : Meaning → (ℕ → ℕ) → Holds → ℕ
most_asked m greatest (Content k) = m.maximum k
most_asked m greatest (Inner u) = greatest u

-- a cell's maximum is at most 2,000, but never below its minimum
abbrev pub want_of : Meaning → (ℕ → ℕ) → (ℕ → ℕ) → Cell → Want
want_of m least greatest c =
    record {
      first = c.column;
      span = c.across;
      minimum = least_asked m least c.holds;
      maximum = max (least_asked m least c.holds) (min (most_asked m greatest c.holds) widest);
    }

-- what the cells of table t, which is b, ask of its columns
abbrev pub wants : Meaning → List Table → List Cell → ℕ → Table → List Want
wants m ts cs t b = map (want_of m (least_in ts) (greatest_in ts)) (cells_of Columns t b cs)

unfoldable pub measure : Meaning → List Cell → List Table → ℕ → Table → Table
measure m cs ts t b = measured b (wants m ts cs t b)

-- ---- the offers: the sheet's for table 0, its cell's width for an inner table

unfoldable pub offer_of : ℕ → List Cell → List Table → ℕ → ℕ
offer_of A cs ts t = seen (cell_width ts) A (cell_at cs (holder t cs))

unfoldable pub widen : ℕ → List Cell → List Table → ℕ → Table → Table
widen A cs ts t b = offered_to b (offer_of A cs ts t)

-- ---- the rows

-- how tall what a cell holds is: its content at width w, or the table
abbrev pub height_asked : Meaning → (ℕ → ℕ) → ℕ → Holds → ℕ
height_asked m height w (Content k) = m.height k w
height_asked m height w (Inner u) = min (height u) largest

abbrev pub row_want : Meaning → (ℕ → ℕ) → Table → Cell → Want
row_want m height b c =
    record {
      first = c.row;
      span = c.down;
      minimum = height_asked m height (wide_in b c) c.holds;
      maximum = height_asked m height (wide_in b c) c.holds;
    }

abbrev pub row_wants : Meaning → List Table → List Cell → ℕ → Table → List Want
row_wants m ts cs t b = map (row_want m (height_in ts) b) (cells_of Rows t b cs)

unfoldable pub stack : Meaning → List Cell → List Table → ℕ → Table → Table
stack m cs ts t b = stacked b (row_wants m ts cs t b)

-- ---- the boxes

-- the left top corner of the cell of that number; that of the page where there is none
unfoldable pub corner : List Cell → Option ℕ → ℕ × ℕ
corner cs o = seen (λ (c : Cell). (c.rect.left, c.rect.top)) (0, 0) (cell_at cs o)

-- where a cell of table b stands, the table's left top corner being p
abbrev pub rect_in : Table → ℕ × ℕ → Cell → Rect
rect_in b p c =
    record {
      left = p.0 + begins b.spacing (widths b) c.column;
      top = p.1 + begins b.spacing (heights b) c.row;
      width = wide_in b c;
      height = tall_in b c;
    }

-- what is kept of it: nothing on a page that can be laid passes 65,535
abbrev pub kept_rect : Rect → Rect
kept_rect r = record { left = min r.left largest; top = min r.top largest; width = min r.width largest; height = min r.height largest }

abbrev pub with_rect : Cell → Rect → Cell
with_rect c r = record { table = c.table; row = c.row; column = c.column; across = c.across; down = c.down; holds = c.holds; rect = r }

-- plan: the cells as they were at first
unfoldable pub put : List Table → List Cell → List Cell → ℕ → Cell → Cell
put ts plan cs i c = seen (λ b. with_rect c (kept_rect (rect_in b (corner cs (holder c.table plan)) c))) c (slice_get ts c.table)

-- ---- passes

unfoldable pub alter : {X : Type 0} → ℕ → (X → X) → List X → List X
alter i f [] = []
alter zero f (x ∷ xs) = f x ∷ xs
alter (suc i) f (x ∷ xs) = x ∷ alter i f xs

-- member n - 1 first, then n - 2, and so on to 0; each sees the list as it is by then
unfoldable pub down : {X : Type 0} → (List X → ℕ → X → X) → ℕ → List X → List X
down f zero xs = xs
down f (suc n) xs = down f n (alter n (f xs n) xs)

-- n members, from member i on
unfoldable pub up : {X : Type 0} → (List X → ℕ → X → X) → ℕ → ℕ → List X → List X
up f zero i xs = xs
up f (suc n) i xs = up f n (suc i) (alter i (f xs i) xs)

unfoldable pub all_measured : Meaning → List Table → List Cell → List Table
all_measured m ts cs = down (measure m cs) (length ts) ts

unfoldable pub all_widened : ℕ → List Table → List Cell → List Table
all_widened A ts cs = up (widen A cs) (length ts) 0 ts

unfoldable pub all_stacked : Meaning → List Table → List Cell → List Table
all_stacked m ts cs = down (stack m cs) (length ts) ts

unfoldable pub all_put : List Table → List Cell → List Cell
all_put ts cs = up (put ts cs) (length cs) 0 cs

-- ---- what is refused

-- the first fault that f finds, from cell i on
unfoldable pub first_fault : (ℕ → Cell → Option Fault) → ℕ → List Cell → Option Fault
first_fault f i [] = None
first_fault f i (c ∷ cs) = seen Some (first_fault f (suc i) cs) (f i c)

-- cell i holds a content that is not on the shelf
abbrev pub off_shelf : Meaning → ℕ → Holds → Option Fault
off_shelf m i (Content k) = if m.has k then None else Some (fault NotOnShelf i)
off_shelf m i (Inner u) = None

-- cell i holds a content that cannot be set at width w
abbrev pub unfit : Meaning → ℕ → ℕ → Holds → Option Fault
unfit m w i (Content k) = if m.has k then (if misfits m k w then Some (fault UnfitWidth i) else None) else Some (fault NotOnShelf i)
unfit m w i (Inner u) = None

-- the lowest cell whose content is not on the shelf
abbrev pub missing : Meaning → List Cell → Option Fault
missing m cs = first_fault (λ i (c : Cell). off_shelf m i c.holds) 0 cs

-- the lowest cell whose content cannot be set at its width; in a laid sheet there is none
abbrev pub misfit : Meaning → List Table → List Cell → Option Fault
misfit m ts cs = first_fault (λ i (c : Cell). unfit m (cell_width ts c) i c.holds) 0 cs

-- the lowest cell whose content cannot be set at the width of its box
abbrev pub misfit_box : Meaning → List Cell → Option Fault
misfit_box m cs = first_fault (λ i (c : Cell). unfit m c.rect.width i c.holds) 0 cs

abbrev pub or_else : Option ℕ → Option ℕ → Option ℕ
or_else None o = o
or_else (Some i) o = Some i

-- the highest table, from number i on, that p is true of
unfoldable pub highest : (Table → Bool) → ℕ → List Table → Option ℕ
highest p i [] = None
highest p i (b ∷ bs) = or_else (highest p (suc i) bs) (if p b then Some i else None)

-- a least width above 2,000
abbrev pub too_wide : Table → Bool
too_wide b = nat_lt widest (least_width b.spacing (own_columns b))

-- no table is taller than this
abbrev pub tallest : ℕ
tallest = 20000

abbrev pub too_tall : Table → Bool
too_tall b = nat_lt tallest (whole b.spacing (heights b))

abbrev pub named : Reason → Option ℕ → Option Fault
named why None = None
named why (Some t) = Some (fault why t)

-- ---- the whole

-- the tables and cells of a sheet
pub record Lists : Type 0 where
  pub tables : List Table
  pub cells : List Cell

-- r, unless there is a fault
abbrev pub unless : {A : Type 0} → Option Fault → Result A Fault → Result A Fault
unless None r = r
unless (Some f) r = Err f

unfoldable pub layout : Meaning → ℕ → List Table → List Cell → Result Lists Fault
layout m A ts cs =
    let one = all_measured m ts cs in
    let two = all_widened A one cs in
    let three = all_stacked m two cs in
    unless (missing m cs)
    (unless (named TooWide (highest too_wide 0 one))
    (unless (misfit m two cs)
    (unless (named TooTall (highest too_tall 0 three))
    (Ok (record { tables = three; cells = all_put three cs })))))

-- ---- no measures

abbrev pub clear_column : Column → Column
clear_column c = record { sizing = c.sizing; least = 0; greatest = 0; width = 0 }

-- a table, and a cell, with every measure 0
abbrev pub clear_table : Table → Table
clear_table b =
    record {
      columns = map clear_column b.columns;
      count = b.count;
      spacing = b.spacing;
      begun = b.begun;
      reached = b.reached;
      heights = map (λ _. 0) b.heights;
      taken = b.taken;
    }

abbrev pub clear_cell : Cell → Cell
clear_cell c = with_rect c no_rect

-- The laws of the layout: accepted, its measures fit, and no others do; declined, the condition of the refusal holds; and what a laid sheet promises.
use Rattle.std.specs.Prelude.{◌≡◌, ℕ, ◌+◌, ◌-◌, ◌*◌, ◌<◌, ◌≤◌, false, List, map, length, Some, ◌≢◌, slice_index}
use Rattle.std.specs.List.{slice_get}
use Rattle.fault.specs.declared.Fault.{Fault}
use Rattle.fault.specs.declared.Reason.{Reason}
use Rattle.fault.specs.declared.Reason.TheVariants.{OutOfRange, NotFound, AlreadyStarted, NoRow, NoFreeColumns, PastLastRow, Full, NotLaid, NotOnShelf, TooWide, TooTall, PastPageEnd, WrongPageLength, UnfitWidth, PastLastLine, WrongLineLength, FileTooLong, ByteNotAllowed, Malformed, Misplaced, MixedContent, Unfinished}
use Rattle.share.specs.Share.{total, stretch}
use Rattle.shelf.specs.Shelves.{Meaning, Fitting, widest}
use Rattle.plan.specs.declared.record.Cell.{Cell}
use Rattle.plan.specs.declared.record.Column.{Column}
use Rattle.plan.specs.declared.record.Holds.TheVariants.{Content, Inner}
use Rattle.plan.specs.declared.record.Rect.{Rect}
use Rattle.plan.specs.declared.record.Table.{Table}
use Rattle.columns.specs.Columns.{leasts, greatests, spreads, least_width, greatest_width}
use Rattle.columns.specs.Tables.{own_columns, widths, heights}
use Rattle.columns.specs.Tracks.{whole}
use Rattle.laid.specs.Views.{seen, holder}
use Rattle.laid.specs.Layout.{Lists, offer_of, corner, clear_table, clear_cell, tallest}
use Rattle.laid.specs.Fits.{ColumnsFit, TableFits, Shelved, Narrow, Low, Fits}
use Rattle.laid.specs.Geometry.{Inside, Disjoint, Sound}

-- the area of table t: as large as the table, at the left top corner of the cell that holds it
abbrev pub area_of : List Table → List Cell → ℕ → Rect
area_of ts cs t =
    record {
      left = (corner cs (holder t cs)).0;
      top = (corner cs (holder t cs)).1;
      width = seen (λ (b : Table). whole b.spacing (widths b)) 0 (slice_get ts t);
      height = seen (λ (b : Table). whole b.spacing (heights b)) 0 (slice_get ts t);
    }

-- the same plan: tables and cells that differ in their measures alone
abbrev pub SameTables : List Table → List Table → Type 0
SameTables ts us = map clear_table ts ≡ map clear_table us

abbrev pub SameCells : List Cell → List Cell → Type 0
SameCells cs ds = map clear_cell cs ≡ map clear_cell ds

-- ---- an accepted layout

pub record Lays (m : Meaning) (A : ℕ) (ts : List Table) (cs : List Cell) (s : Lists) : Type 0 where
  pub tables_same : SameTables s.tables ts
  pub cells_same : SameCells s.cells cs
  pub fits : Fits m A s.tables s.cells

-- ---- the three refusals, each with its place

-- cell i is the lowest whose content is not on the shelf
pub record Missing (m : Meaning) (cs : List Cell) (i : ℕ) : Type 0 where
  pub cell : Cell
  pub content : ℕ
  pub there : slice_get cs i ≡ Some cell
  pub holds_it : cell.holds ≡ Content content
  pub not_shelved : m.has content ≡ false
  pub lowest : (k : ℕ) → k < i → Shelved m cs k

-- all contents are on the shelf, and table t is the highest whose least width, by the column rule, is above 2,000
pub record IsTooWide (m : Meaning) (ts : List Table) (cs : List Cell) (t : ℕ) : Type 0 where
  pub shelved : (i : ℕ) → Shelved m cs i
  pub tables : List Table
  pub same : SameTables tables ts
  pub columns : (u : ℕ) (b : Table) → slice_get tables u ≡ Some b → ColumnsFit m tables cs u b
  pub table : Table
  pub there : slice_get tables t ≡ Some table
  pub over : widest < least_width table.spacing (own_columns table)
  pub highest : (u : ℕ) → t < u → Narrow tables u

-- no table is too wide, and table t is the highest whose height, by the rules at this offer, is above 20,000
pub record IsTooTall (m : Meaning) (A : ℕ) (ts : List Table) (cs : List Cell) (t : ℕ) : Type 0 where
  pub shelved : (i : ℕ) → Shelved m cs i
  pub tables : List Table
  pub same : SameTables tables ts
  pub narrow : (u : ℕ) → Narrow tables u
  pub fit : (u : ℕ) (b : Table) → slice_get tables u ≡ Some b → TableFits m A tables cs u b
  pub table : Table
  pub there : slice_get tables t ≡ Some table
  pub over : tallest < whole table.spacing (heights table)
  pub highest : (u : ℕ) → t < u → Low tables u

-- what holds of a refused layout; there are no other refusals
abbrev pub RefusedFor : Meaning → ℕ → List Table → List Cell → ℕ → Reason → Type 0
RefusedFor m A ts cs i NotOnShelf = Missing m cs i
RefusedFor m A ts cs i TooWide = IsTooWide m ts cs i
RefusedFor m A ts cs i TooTall = IsTooTall m A ts cs i
RefusedFor m A ts cs i OutOfRange = ⊥
RefusedFor m A ts cs i NotFound = ⊥
RefusedFor m A ts cs i AlreadyStarted = ⊥
RefusedFor m A ts cs i NoRow = ⊥
RefusedFor m A ts cs i NoFreeColumns = ⊥
RefusedFor m A ts cs i PastLastRow = ⊥
RefusedFor m A ts cs i Full = ⊥
RefusedFor m A ts cs i NotLaid = ⊥
RefusedFor m A ts cs i PastPageEnd = ⊥
RefusedFor m A ts cs i WrongPageLength = ⊥
RefusedFor m A ts cs i UnfitWidth = ⊥
RefusedFor m A ts cs i PastLastLine = ⊥
RefusedFor m A ts cs i WrongLineLength = ⊥
RefusedFor m A ts cs i FileTooLong = ⊥
RefusedFor m A ts cs i ByteNotAllowed = ⊥
RefusedFor m A ts cs i Malformed = ⊥
RefusedFor m A ts cs i Misplaced = ⊥
RefusedFor m A ts cs i MixedContent = ⊥
RefusedFor m A ts cs i Unfinished = ⊥

abbrev pub Refused : Meaning → ℕ → List Table → List Cell → Fault → Type 0
Refused m A ts cs f = RefusedFor m A ts cs f.place f.reason

-- ---- measures that fit are the only ones that do

pub record Alike (ts us : List Table) (cs ds : List Cell) : Type 0 where
  pub columns_alike : (t : ℕ) (b d : Table) → slice_get ts t ≡ Some b → slice_get us t ≡ Some d → own_columns b ≡ own_columns d
  pub heights_alike : (t : ℕ) (b d : Table) → slice_get ts t ≡ Some b → slice_get us t ≡ Some d → heights b ≡ heights d
  pub cells_alike : cs ≡ ds

-- ---- of every sheet whose measures fit

-- what stretches of neighbouring columns grow past their leasts is off their exact share of W, by their spreads whose sum is D, by less than 1
abbrev pub FairGrowth : ℕ → ℕ → List ℕ → List Column → Type 0
FairGrowth W D ws cs =
    (i k : ℕ) →
    ((stretch i k ws - stretch i k (leasts cs)) * D < W * stretch i k (spreads cs) + D)
    × (W * stretch i k (spreads cs) < (stretch i k ws - stretch i k (leasts cs)) * D + D)

-- table t, which is b, has its widths by what it is offered
pub record OfferedWell (A : ℕ) (b : Table) : Type 0 where
  -- offered from its least to its greatest width, it fills the offer exactly
  pub filled : least_width b.spacing (own_columns b) ≤ A → A ≤ greatest_width b.spacing (own_columns b) → whole b.spacing (widths b) ≡ A
  -- offered more, each column has its greatest; offered less, its least
  pub offered_more : greatest_width b.spacing (own_columns b) ≤ A → widths b ≡ greatests (own_columns b)
  pub offered_less : A ≤ least_width b.spacing (own_columns b) → widths b ≡ leasts (own_columns b)
  -- columns stay between least and greatest
  pub between : (j : ℕ) → (slice_index (leasts (own_columns b)) j ≤ slice_index (widths b) j) × (slice_index (widths b) j ≤ slice_index (greatests (own_columns b)) j)
  -- and neighbours grow by their share within one character
  pub fair : least_width b.spacing (own_columns b) ≤ A → A ≤ greatest_width b.spacing (own_columns b) → 0 < total (spreads (own_columns b)) →
      FairGrowth (A - least_width b.spacing (own_columns b)) (total (spreads (own_columns b))) (widths b) (own_columns b)

pub record Laid (m : Meaning) (A : ℕ) (ts : List Table) (cs : List Cell) : Type 0 where
  -- only table 0 can be offered less than its least width
  pub only_first : (t : ℕ) (b : Table) → slice_get ts t ≡ Some b → offer_of A cs ts t < least_width b.spacing (own_columns b) → t ≡ 0
  pub offered : (t : ℕ) (b : Table) → slice_get ts t ≡ Some b → OfferedWell (offer_of A cs ts t) b
  -- every content can be set in its box, whose width is at least its minimum and at most 2,000, and has room there for every line
  pub settable : (i : ℕ) (c : Cell) (k : ℕ) → slice_get cs i ≡ Some c → c.holds ≡ Content k → Fitting m k c.rect.width
  pub room : (i : ℕ) (c : Cell) (k : ℕ) → slice_get cs i ≡ Some c → c.holds ≡ Content k → m.height k c.rect.width ≤ c.rect.height
  -- a box lies inside its cell's table, and an inner table inside its holder's box
  pub in_table : (i : ℕ) (c : Cell) → slice_get cs i ≡ Some c → Inside c.rect (area_of ts cs c.table)
  pub in_holder : (i : ℕ) (c : Cell) (u : ℕ) → slice_get cs i ≡ Some c → c.holds ≡ Inner u → Inside (area_of ts cs u) c.rect
  -- boxes of two cells of one table never overlap
  pub cells_apart : (i k : ℕ) (a b : Cell) → (i ≢ k) → slice_get cs i ≡ Some a → slice_get cs k ≡ Some b → a.table ≡ b.table → Disjoint a.rect b.rect
  -- so everything lies on the page, and no two contents meet, however deep
  pub sound : Sound (length ts) cs (area_of ts cs)
  -- the page is at most 2,000 wide and 20,000 high
  pub page_width : (area_of ts cs 0).width ≤ widest
  pub page_height : (area_of ts cs 0).height ≤ tallest

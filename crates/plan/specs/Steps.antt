-- What each call that builds a sheet makes of its lists, in the order of the checks.
use Rattle.std.specs.Prelude.{ℕ, ◌+◌, ◌-◌, min, max, Bool, if◌then◌else◌, ◌&&◌, ◌||◌, length, Some, None, Ok, Err, Option, Result, ◌==◌, nat_le, nat_lt, slice_index_or, slice_set}
use Rattle.std.specs.List.{slice_get}
use Rattle.fault.specs.Numbers.{fault}
use Rattle.fault.specs.declared.Fault.{Fault}
use Rattle.fault.specs.declared.Reason.TheVariants.{OutOfRange, NotFound, AlreadyStarted, NoRow, NoFreeColumns, PastLastRow, Full}
use Rattle.plan.specs.declared.record.Cell.{Cell}
use Rattle.plan.specs.declared.record.Column.{Column}
use Rattle.plan.specs.declared.record.Holds.{Holds}
use Rattle.plan.specs.declared.record.Holds.TheVariants.{Content, Inner}
use Rattle.plan.specs.declared.record.Sizing.{Sizing}
use Rattle.plan.specs.declared.record.Sizing.TheVariants.{Free, Fixed}
use Rattle.plan.specs.declared.record.Table.{Table}
use Rattle.plan.specs.Blank.{no_rect, blank_column, blank_table}
use Rattle.plan.specs.Stock.{Stock, full, with_new, with_item}
use Rattle.plan.specs.Taken.{spot, taken_to}

abbrev pub from_to : ℕ → ℕ → ℕ → Bool
from_to low high n = nat_le low n && nat_le n high

-- 1 to 32 columns, and a spacing from 0 to 8
abbrev pub table_range : ℕ → ℕ → Bool
table_range n q = from_to 1 32 n && nat_le q 8

-- 1 to 32 columns across, and 1 to 64 rows down
abbrev pub span_range : ℕ → ℕ → Bool
span_range across down = from_to 1 32 across && from_to 1 64 down

-- how many columns a table has
abbrev pub columns_of : Table → ℕ
columns_of b = min b.count 32

-- the row that was begun last
abbrev pub current_row : Table → ℕ
current_row b = b.begun - 1

-- ---- start: a first table

abbrev pub start_tables : Stock Table → ℕ → ℕ → Result (Stock Table) Fault
start_tables ts n q =
    if table_range n q
    then (if length ts.items == 0
    then (if full 64 ts then Err (fault Full 0) else Ok (with_new ts (blank_table n q)))
    else Err (fault AlreadyStarted 0))
    else Err (fault OutOfRange 0)

-- ---- row: the next row of a table begins

abbrev pub with_row : Table → Table
with_row b = record {
  columns = b.columns;
  count = b.count;
  spacing = b.spacing;
  begun = b.begun + 1;
  reached = max b.reached (b.begun + 1);
  heights = b.heights;
  taken = b.taken;
}

abbrev pub row_at : Stock Table → ℕ → Option Table → Result (Stock Table) Fault
row_at ts t None = Err (fault NotFound 0)
row_at ts t (Some b) = if nat_lt b.begun 64 then Ok (with_item ts t (with_row b)) else Err (fault PastLastRow 0)

abbrev pub row_tables : Stock Table → ℕ → Result (Stock Table) Fault
row_tables ts t = row_at ts t (slice_get ts.items t)

-- ---- width: a column is fixed at f, or free where f is 0

abbrev pub sizing_of : ℕ → Sizing
sizing_of f = if f == 0 then Free else Fixed f

abbrev pub sized : Column → ℕ → Column
sized c f = record { sizing = sizing_of f; least = c.least; greatest = c.greatest; width = c.width }

abbrev pub with_sizing : Table → ℕ → ℕ → Table
with_sizing b j f = record {
  columns = slice_set b.columns j (sized (slice_index_or b.columns j blank_column) f);
  count = b.count;
  spacing = b.spacing;
  begun = b.begun;
  reached = b.reached;
  heights = b.heights;
  taken = b.taken;
}

abbrev pub width_at : Stock Table → ℕ → ℕ → ℕ → Option Table → Result (Stock Table) Fault
width_at ts t j f None = Err (fault NotFound 0)
width_at ts t j f (Some b) = if nat_lt j (columns_of b) then Ok (with_item ts t (with_sizing b j f)) else Err (fault NotFound 0)

abbrev pub width_tables : Stock Table → ℕ → ℕ → ℕ → Result (Stock Table) Fault
width_tables ts t j f = if nat_le f 1000 then width_at ts t j f (slice_get ts.items t) else Err (fault OutOfRange 0)

-- ---- place and nest: a cell goes to the lowest free column of the current row

-- the answer of a call that adds a cell, and what the two lists are then
pub record Added : Type 0 where
  pub answer : ℕ
  pub tables : Stock Table
  pub cells : Stock Cell

abbrev pub spot_to : ℕ → Option ℕ → Result ℕ Fault
spot_to end None = Err (fault NoFreeColumns 0)
spot_to end (Some j) = if nat_le end 64 then Ok j else Err (fault PastLastRow 0)

-- the column of a cell in the current row, where `free` tells which columns are free there
abbrev pub column_for : (ℕ → Bool) → Table → ℕ → ℕ → Result ℕ Fault
column_for free b across down =
    if b.begun == 0 then Err (fault NoRow 0) else spot_to (current_row b + down) (spot free (columns_of b) across)

abbrev pub new_cell : ℕ → Table → ℕ → ℕ → ℕ → Holds → Cell
new_cell t b j across down holds = record {
  table = t;
  row = current_row b;
  column = j;
  across = across;
  down = down;
  holds = holds;
  rect = no_rect;
}

-- the table once it has a cell there
abbrev pub with_cell : Table → ℕ → ℕ → ℕ → Table
with_cell b j across down = record {
  columns = b.columns;
  count = b.count;
  spacing = b.spacing;
  begun = b.begun;
  reached = max b.reached (current_row b + down);
  heights = b.heights;
  taken = taken_to b.taken j across (current_row b + down);
}

-- `free` tells whether a column of a table, of that number, is free in its current row
module _ (free : ℕ → Table → ℕ → Bool) (ts : Stock Table) (cs : Stock Cell) (t across down : ℕ) where
  abbrev pub place_in : ℕ → Table → Result ℕ Fault → Result Added Fault
  place_in content b (Err f) = Err f
  place_in content b (Ok j) =
      if full 1024 cs then Err (fault Full 0) else Ok (record {
        answer = length cs.items;
        tables = with_item ts t (with_cell b j across down);
        cells = with_new cs (new_cell t b j across down (Content content));
      })

  abbrev pub place_at : ℕ → Option Table → Result Added Fault
  place_at content None = Err (fault NotFound 0)
  place_at content (Some b) = place_in content b (column_for (free t b) b across down)

  abbrev pub place_lists : ℕ → Result Added Fault
  place_lists content = if span_range across down then place_at content (slice_get ts.items t) else Err (fault OutOfRange 0)

  abbrev pub nest_in : ℕ → ℕ → Table → Result ℕ Fault → Result Added Fault
  nest_in n q b (Err f) = Err f
  nest_in n q b (Ok j) =
      if full 1024 cs || full 64 ts then Err (fault Full 0) else Ok (record {
        answer = length ts.items;
        tables = with_new (with_item ts t (with_cell b j across down)) (blank_table n q);
        cells = with_new cs (new_cell t b j across down (Inner (length ts.items)));
      })

  abbrev pub nest_at : ℕ → ℕ → Option Table → Result Added Fault
  nest_at n q None = Err (fault NotFound 0)
  nest_at n q (Some b) = nest_in n q b (column_for (free t b) b across down)

  abbrev pub nest_lists : ℕ → ℕ → Result Added Fault
  nest_lists n q = if span_range across down && table_range n q then nest_at n q (slice_get ts.items t) else Err (fault OutOfRange 0)

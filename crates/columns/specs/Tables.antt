-- The columns and rows of a table record, and what measuring and offering make of the record.
use Rattle.std.specs.Prelude.{ℕ, ◌+◌, min, Bool, ◌&&◌, List, [], ◌∷◌, map, take, ◌==◌, nat_le}
use Rattle.plan.specs.declared.record.Axis.{Axis}
use Rattle.plan.specs.declared.record.Axis.TheVariants.{Columns, Rows}
use Rattle.plan.specs.declared.record.Cell.{Cell}
use Rattle.plan.specs.declared.record.Column.{Column}
use Rattle.plan.specs.declared.record.Table.{Table}
use Rattle.plan.specs.Steps.{from_to, columns_of as column_count}
use Rattle.columns.specs.Columns.{over, columns_of, widths_of, rows_of}
use Rattle.columns.specs.Wants.{Want}

-- how many rows a table has
abbrev pub row_count : Table → ℕ
row_count b = min b.reached 64

-- how many tracks a table has
abbrev pub track_count : Axis → Table → ℕ
track_count Columns b = column_count b
track_count Rows b = row_count b

-- the columns that table b has
abbrev pub own_columns : Table → List Column
own_columns b = take (column_count b) b.columns

-- how wide they are, and how tall its rows
abbrev pub widths : Table → List ℕ
widths b = map (λ (c : Column). c.width) (own_columns b)

abbrev pub heights : Table → List ℕ
heights b = take (row_count b) b.heights

abbrev pub sizes : Axis → Table → List ℕ
sizes Columns b = widths b
sizes Rows b = heights b

-- ---- which tracks a cell takes

abbrev pub first_of : Axis → Cell → ℕ
first_of Columns c = c.column
first_of Rows c = c.row

abbrev pub span_of : Axis → Cell → ℕ
span_of Columns c = c.across
span_of Rows c = c.down

-- the most tracks that a cell may span
abbrev pub widest_span : Axis → ℕ
widest_span Columns = 32
widest_span Rows = 64

-- the cell is one of table t and lies in its n tracks
abbrev pub lies_in : Axis → ℕ → ℕ → Cell → Bool
lies_in x t n c = c.table == t && (from_to 1 (widest_span x) (span_of x c) && nat_le (first_of x c + span_of x c) n)

-- ---- the record after a change of its tracks; the places past them stay as they are

abbrev pub with_columns : (List Column → List Column) → Table → Table
with_columns f b =
    record {
      columns = over f 0 (column_count b) b.columns;
      count = b.count;
      spacing = b.spacing;
      begun = b.begun;
      reached = b.reached;
      heights = b.heights;
      taken = b.taken;
    }

abbrev pub with_heights : (List ℕ → List ℕ) → Table → Table
with_heights f b =
    record {
      columns = b.columns;
      count = b.count;
      spacing = b.spacing;
      begun = b.begun;
      reached = b.reached;
      heights = over f 0 (row_count b) b.heights;
      taken = b.taken;
    }

-- table b with its columns measured for what xs ask
abbrev pub measured : Table → List Want → Table
measured b xs = with_columns (λ cs. columns_of b.spacing cs xs) b

-- column c at width w
abbrev pub as_wide : ℕ → Column → Column
as_wide w c = record { sizing = c.sizing; least = c.least; greatest = c.greatest; width = w }

-- each column at its width
abbrev pub with_widths : List ℕ → List Column → List Column
with_widths [] cs = cs
with_widths (w ∷ ws) [] = []
with_widths (w ∷ ws) (c ∷ cs) = as_wide w c ∷ with_widths ws cs

-- the columns with spacing q after an offer of A
abbrev pub given_of : ℕ → ℕ → List Column → List Column
given_of q A cs = with_widths (widths_of q cs A) cs

-- table b after an offer of A
abbrev pub offered_to : Table → ℕ → Table
offered_to b A = with_columns (given_of b.spacing A) b

-- table b with its rows as tall as xs ask
abbrev pub stacked : Table → List Want → Table
stacked b xs = with_heights (λ _. rows_of b.spacing (row_count b) xs) b

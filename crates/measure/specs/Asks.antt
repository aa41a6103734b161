-- What the cells of a table ask, as the code has it: the cells, and beside each what it asks.
use Rattle.std.specs.Prelude.{◌≡◌, ℕ, ◌+◌, max, Bool, true, if◌then◌else◌, ◌&&◌, List, [], ◌∷◌, map, length, take, Some, None, Option, ◌==◌, ◌≢◌, nat_le, nat_lt, slice_index_or}
use Rattle.std.specs.List.{AllByRecursion}
use Rattle.plan.specs.declared.record.Cell.{Cell}
use Rattle.plan.specs.declared.record.Column.{Column}
use Rattle.plan.specs.declared.record.Table.{Table}
use Rattle.plan.specs.Steps.{from_to, columns_of as count_of}
use Rattle.columns.specs.Columns.{over, columns_of}
use Rattle.columns.specs.Wants.{Want}
use Rattle.measure.specs.Bounds.{meet}
use Rattle.measure.specs.declared.ask.Ask.{Ask}
use Rattle.measure.specs.declared.pass.Asking.{Asking}
use Rattle.measure.specs.declared.column.Bound.TheVariants.{Least, Greatest}

-- a column raised to what a cell asks
abbrev pub raised_by : Ask → Column → Column
raised_by a c = record { sizing = c.sizing; least = max c.least a.least; greatest = max c.greatest a.greatest; width = c.width }

-- the columns that a cell spans, raised by what it asks: one column to just that, more by shares
abbrev pub lifted : ℕ → Ask → List Column → List Column
lifted q a cs =
    if length cs == 1 then map (raised_by a) cs else meet Greatest q (length cs) a.greatest (meet Least q (length cs) a.least cs)

-- what cell c asks of the columns
abbrev pub want_of : Cell → Ask → Want
want_of c a = record { first = c.column; span = c.across; minimum = a.least; maximum = a.greatest }

-- the cell is one of table t and lies in its n columns
abbrev pub asks_in : ℕ → ℕ → Cell → Bool
asks_in t n c = c.table == t && (from_to 1 32 c.across && nat_le (c.column + c.across) n)

-- what the cells of table t ask of its n columns, in the order of their numbers
abbrev pub wants : ℕ → ℕ → List Cell → List Ask → List Want
wants t n [] as' = []
wants t n (c ∷ cs) [] = []
wants t n (c ∷ cs) (a ∷ as') = if asks_in t n c then (want_of c a ∷ wants t n cs as') else wants t n cs as'

-- what the cells of `a` ask of the n columns of its table
abbrev pub asks_of : Asking → ℕ → List Want
asks_of a n = wants a.table n a.cells.now a.asks.now

abbrev pub no_ask : Ask
no_ask = record { least = 0; greatest = 0 }

-- what cell i asks, if it spans s of the n columns of table t
abbrev pub asked : ℕ → ℕ → ℕ → ℕ → Cell → List Ask → Option Ask
asked t n s i c as' = if c.across == s && (nat_lt i (length as') && asks_in t n c) then Some (slice_index_or as' i no_ask) else None

-- a cell of any span raises the columns that it spans
abbrev pub step : ℕ → Want → List Column → List Column
step q x cs = over (lifted q (record { least = x.minimum; greatest = x.maximum })) x.first x.span cs

-- no cell asks for s of the n columns of table t
abbrev pub Absent : ℕ → ℕ → ℕ → List Cell → Type 0
Absent t n s cs = AllByRecursion (λ c. asks_in t n c ≡ true → c.across ≢ s) cs

-- the columns that table b has
abbrev pub own_columns : Table → List Column
own_columns b = take (count_of b) b.columns

-- table b after f has been done to its columns; the places past them stay as they are
abbrev pub with_columns : (List Column → List Column) → Table → Table
with_columns f b =
    record {
      columns = over f 0 (count_of b) b.columns;
      count = b.count;
      spacing = b.spacing;
      begun = b.begun;
      reached = b.reached;
      heights = b.heights;
      taken = b.taken;
    }

-- table b with its columns measured for the cells xs
abbrev pub measured : Table → List Want → Table
measured b xs = with_columns (λ cs. columns_of b.spacing cs xs) b

-- what cells ask of the columns of table b, where it is table t
abbrev pub wants_of : ℕ → Table → List Cell → List Ask → List Want
wants_of t b cs as' = wants t (count_of b) cs as'

-- The calls that build a sheet, what each answers and leaves, and runs of calls.
use Rattle.std.specs.Prelude.{◌≡◌, ℕ, Bool, false, List, [], ◌∷◌, Ok, Err, Result}
use Rattle.fault.specs.declared.Fault.{Fault}
use Rattle.plan.specs.declared.record.Cell.{Cell}
use Rattle.plan.specs.declared.record.Table.{Table}
use Rattle.plan.specs.Stock.{Stock}
use Rattle.plan.specs.Steps.{Added, start_tables, row_tables, width_tables, place_lists, nest_lists}
use Rattle.plan.specs.Cells.{by_cells}
use Rattle.runs.specs.State.{State, empty}

-- a call with what it is passed
pub data Call : Type 0 where
  Start : (n q : ℕ) → Call
  Row : (t : ℕ) → Call
  Place : (t content across down : ℕ) → Call
  Nest : (t across down n q : ℕ) → Call
  Width : (t j f : ℕ) → Call

-- nothing, or the number of what was made
pub data Answer : Type 0 where
  Done : Answer
  Number : ℕ → Answer

pub record Outcome : Type 0 where
  pub answer : Answer
  pub after : State

-- the tables are changed; the sheet is then laid or not
abbrev pub changed : State → Bool → Result (Stock Table) Fault → Result Outcome Fault
changed s laid (Ok ts) = Ok (record { answer = Done; after = record { tables = ts; cells = s.cells; laid = laid } })
changed s laid (Err f) = Err f

-- a cell is added, which ends the laid state
abbrev pub added : Result Added Fault → Result Outcome Fault
added (Ok a) = Ok (record { answer = Number a.answer; after = record { tables = a.tables; cells = a.cells; laid = false } })
added (Err f) = Err f

-- what a call answers and leaves. Where a cell goes is told by the cells that stand there; an accepted row, place, nest or width ends the laid state
abbrev pub wanted : State → Call → Result Outcome Fault
wanted s (Start n q) = changed s s.laid (start_tables s.tables n q)
wanted s (Row t) = changed s false (row_tables s.tables t)
wanted s (Place t content across down) = added (place_lists (by_cells s.cells.items) s.tables s.cells t across down content)
wanted s (Nest t across down n q) = added (nest_lists (by_cells s.cells.items) s.tables s.cells t across down n q)
wanted s (Width t j f) = changed s false (width_tables s.tables t j f)

-- a declined call leaves all as it was
abbrev pub after_of : State → Result Outcome Fault → State
after_of s (Ok o) = o.after
after_of s (Err f) = s

abbrev pub next : State → Call → State
next s c = after_of s (wanted s c)

abbrev pub run : State → List Call → State
run s [] = s
run s (c ∷ cs) = run (next s c) cs

-- some run from an empty sheet reaches the state
pub record Reached (s : State) : Type 0 where
  pub table_places : List Table
  pub cell_places : List Cell
  pub calls : List Call
  pub is : run (empty table_places cell_places) calls ≡ s

-- What holds of the cells and tables of a sheet after every run.
use Rattle.std.specs.Prelude.{◌≡◌, ℕ, ◌<◌, ◌≤◌, Some}
use Rattle.std.specs.List.{slice_get}
use Rattle.plan.specs.declared.record.Table.{Table}
use Rattle.plan.specs.Steps.{columns_of, current_row}
use Rattle.plan.specs.Taken.{open_at}
use Rattle.plan.specs.Cells.{free_in}
use Rattle.plan.specs.Planned as plans
use Rattle.runs.specs.State.{State}

-- the plan of a sheet
abbrev pub Planned : State → Type 0
Planned s = plans.Planned s.tables.items s.cells.items

-- the code's record of taken columns tells of the current row and of all rows below what the cells tell
abbrev pub RecordTied : State → Type 0
RecordTied s = (t : ℕ) (b : Table) → slice_get s.tables.items t ≡ Some b → (r j : ℕ) → current_row b ≤ r → j < columns_of b → open_at b.taken r j ≡ free_in s.cells.items t r j

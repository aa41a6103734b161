-- A sheet as all that its two lists hold, and whether it is laid.
use Rattle.std.specs.Prelude.{Bool, false, List, []}
use Rattle.list.specs.declared.store.List as Lent
use Rattle.plan.specs.declared.record.Cell.{Cell}
use Rattle.plan.specs.declared.record.Table.{Table}
use Rattle.plan.specs.Stock.{Stock, held}

pub record State : Type 0 where
  pub tables : Stock Table
  pub cells : Stock Cell
  pub laid : Bool

abbrev pub state_of : Lent.List Table → Lent.List Cell → Bool → State
state_of tables cells laid = record { tables = held tables; cells = held cells; laid = laid }

-- an empty sheet over lent places, of any number and with anything in them
abbrev pub empty : List Table → List Cell → State
empty ts cs = record { tables = record { items = []; spare = ts }; cells = record { items = []; spare = cs }; laid = false }

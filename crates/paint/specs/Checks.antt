-- What a look at a cell finds wrong.
use Rattle.std.specs.Prelude.{◌≡◌, ℕ, Ok, Option, Result}
use Rattle.std.specs.Borrow.{Bor}
use Rattle.std.specs.Fn.{Shared}
use Rattle.fault.specs.declared.Fault.{Fault}
use Rattle.plan.specs.declared.record.Cell.{Cell}
use Rattle.laid.specs.Layout.{unless}

-- f declines just where something is wrong with a cell
abbrev pub Finds : {F : Type 0} → Shared F (ℕ × (Bor Cell × Unit {0})) (Result (Unit {0}) Fault) → F → (ℕ → Cell → Option Fault) → Type 0
Finds s f wrong = (i : ℕ) (c : Bor Cell) (r : Result (Unit {0}) Fault) → s.post f (i, (c, tt)) r → r ≡ unless (wrong i c.now) (Ok tt)

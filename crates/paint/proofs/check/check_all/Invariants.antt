use Rattle.std.proofs.Common.{◌≡◌, ℕ, drop, Option}
use Rattle.fault.specs.declared.Fault.{Fault}
use Rattle.plan.specs.declared.record.Cell.{Cell}
use Rattle.laid.specs.Layout.{first_fault}
use Rattle.paint.specs.Checks.{Finds}
use Rattle.paint.proofs.check.check_all.Given as goal

-- what is wrong from here on is what is wrong at all
abbrev pub invariant-loop-i : goal.invariant-loop-i
invariant-loop-i g l = (wrong : ℕ → Cell → Option Fault) → Finds g.F.Fn l.check wrong → first_fault wrong l.i (drop l.i l.cells) ≡ first_fault wrong 0 l.cells

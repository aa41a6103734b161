use Rattle.std.proofs.Common.{◌≡◌, length, drop}
use Rattle.columns.specs.Columns.{each_of}
use Rattle.measure.specs.Asks.{wants, step}
use Rattle.measure.proofs.pass.Asking.lift_all.Given as goal

-- what the rest of the cells make of the columns is what all make of them
abbrev pub invariant-loop-i : goal.invariant-loop-i
invariant-loop-i l =
    each_of l.s (step l.spacing) (wants l.self.table (length l.initial.cols) (drop l.i l.self.cells.now) (drop l.i l.self.asks.now)) l.cols
    ≡ each_of l.s (step l.spacing) (wants l.self.table (length l.initial.cols) l.self.cells.now l.self.asks.now) l.initial.cols

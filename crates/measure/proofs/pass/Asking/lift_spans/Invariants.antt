use Rattle.std.proofs.Common.{◌≡◌, ◌-◌, length}
use Rattle.columns.specs.Columns.{spans}
use Rattle.measure.specs.Asks.{wants, step}
use Rattle.measure.proofs.pass.Asking.lift_spans.Given as goal

-- what the longer spans make of the columns is what all make of them
abbrev pub invariant-loop-s : goal.invariant-loop-s
invariant-loop-s l =
    spans (step l.spacing) (33 - l.s) l.s (wants l.self.table (length l.initial.cols) l.self.cells.now l.self.asks.now) l.cols
    ≡ spans (step l.spacing) 31 2 (wants l.self.table (length l.initial.cols) l.self.cells.now l.self.asks.now) l.initial.cols

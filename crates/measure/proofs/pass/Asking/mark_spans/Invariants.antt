use Rattle.std.proofs.Common.{◌≡◌, length, take}
use Rattle.measure.proofs.Marks.{Marked}
use Rattle.measure.proofs.pass.Asking.mark_spans.Given as goal

-- a span without a mark is not among the cells so far
abbrev pub invariant-loop-cell : goal.invariant-loop-cell
invariant-loop-cell l = Marked l.self.table l.n l.marks (take l.cell-index l.self.cells.now) × (length l.marks ≡ 33)

use Rattle.std.proofs.Common.{length, sym, ap, ◌∙◌, arith}
use Rattle.columns.specs.Columns.{each_of}
use Rattle.measure.specs.Asks.{wants, step}
use Rattle.measure.proofs.Marks.{each_absent}
use Rattle.measure.proofs.Walk.{span_more, span_none}
use Rattle.measure.proofs.pass.Asking.lift_spans.Goals as goal
use Rattle.measure.proofs.pass.Asking.lift_spans.Goals.{then-marks-s, else-marks-s}

pub loop-s-preserved : goal.loop-s-preserved
loop-s-preserved c =
    let a = c.args in
    let s = c.loop-s.s in
    let f = step a.spacing in
    let n = length a.cols.now in
    let xs = wants a.self.now.table n a.self.now.cells.now a.self.now.asks.now in
    elim c.if-marks-s.branch [
      | then-marks-s w ↦
          span_more f s xs c.loop-s.cols c.if-marks-s.cols _ (omega arith)
          (w.cols-is ∙ w.lift_all.ensures ∙ ap (λ m. each_of s f (wants a.self.now.table m a.self.now.cells.now a.self.now.asks.now) c.loop-s.cols) c.loop-s.auto.cols)
          c.loop-s.invariant
      | else-marks-s w ↦
          span_more f s xs c.loop-s.cols c.if-marks-s.cols _ (omega arith)
          (w.cols-is ∙ sym (each_absent f a.self.now.table n s a.self.now.cells.now a.self.now.asks.now c.loop-s.cols (c.mark_spans-marks.ensures s w.if-marks-s.false)))
          c.loop-s.invariant
    ]

pub returns : goal.returns
returns c =
    let a = c.args in
    span_none (step a.spacing) c.loop-s.s (wants a.self.now.table (length a.cols.now) a.self.now.cells.now a.self.now.asks.now) c.loop-s.cols _ (omega arith) c.loop-s.invariant

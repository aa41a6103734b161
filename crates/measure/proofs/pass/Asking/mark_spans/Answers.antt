use Rattle.std.proofs.Common.{get_or, sym, ◌∙◌, arith, length-set}
use Rattle.plan.specs.Blank.{blank_cell}
use Rattle.measure.proofs.Lift.{asks_fit}
use Rattle.measure.proofs.Marks.{marked_yes, marked_no}
use Rattle.measure.proofs.pass.Asking.mark_spans.Goals as goal
use Rattle.measure.proofs.pass.Asking.mark_spans.Goals.{then-asks_in, else-asks_in}

pub loop-cell-preserved : goal.loop-cell-preserved
loop-cell-preserved c =
    let a = c.args in
    let i = c.loop-cell.cell-index in
    let ms = c.loop-cell.marks in
    let k = get_or a.self.now.cells.now i blank_cell in
    elim c.if-asks_in.branch [
      | then-asks_in w ↦
          let o = asks_fit a.self.now.table a.n k (sym c.asks_in.ensures ∙ w.if-asks_in.true) in
          rw w.marks-is (
            marked_yes a.self.now.table a.n ms a.self.now.cells.now i (omega arith) (omega arith) c.loop-cell.invariant.0,
            length-set ms k.across _ ∙ c.loop-cell.invariant.1,
          )
      | else-asks_in w ↦
          rw w.marks-is (
            marked_no a.self.now.table a.n ms a.self.now.cells.now i (omega arith) (sym c.asks_in.ensures ∙ w.if-asks_in.false) c.loop-cell.invariant.0,
            c.loop-cell.invariant.1,
          )
    ]

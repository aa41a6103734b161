use Rattle.std.proofs.Common.{◌+◌, ◌-◌, length, get_or, drop, sym, ap, ◌∙◌, arith}
use Rattle.plan.specs.Blank.{blank_cell}
use Rattle.measure.specs.Asks.{asked, lifted, step}
use Rattle.measure.proofs.Lift.{one_more, rest_all, written, asked_fits}
use Rattle.measure.proofs.pass.Asking.lift_all.Goals as goal
use Rattle.measure.proofs.pass.Asking.lift_all.Goals.{in-Some, in_default}

pub loop-i-preserved : goal.loop-i-preserved
loop-i-preserved c =
    let a = c.args in
    let i = c.loop-i.i in
    let e = c.asked.ensures ∙ ap (λ n. asked a.self.now.table n a.s i (get_or a.self.now.cells.now i blank_cell) a.self.now.asks.now) c.loop-i.auto.cols in
    elim c.match-asked.branch [
      | in-Some w ↦
          let k = get_or a.self.now.cells.now i blank_cell in
          let inside = asked_fits a.self.now.table (length a.cols.now) a.s i k a.self.now.asks.now w.in-Some.ask (sym e ∙ w.in-Some.is) in
          one_more (step a.spacing) a.self.now.table (length a.cols.now) a.s a.self.now.cells.now a.self.now.asks.now i c.loop-i.cols c.match-asked.cols _ _ (omega arith) (sym w.in-Some.is ∙ e)
          (w.cols-is ∙ written (lifted a.spacing w.in-Some.ask) k.column k.across (k.column + k.across - k.column) c.loop-i.cols w.lift.new.cols (omega (arith, inside)) (omega arith) w.lift.ensures)
          c.loop-i.invariant
      | in_default w ↦
          one_more (step a.spacing) a.self.now.table (length a.cols.now) a.s a.self.now.cells.now a.self.now.asks.now i c.loop-i.cols c.match-asked.cols _ _ (omega arith) (sym w.in_default.is ∙ e)
          w.cols-is c.loop-i.invariant
    ]

pub returns : goal.returns
returns c =
    let a = c.args in
    sym (rest_all (step a.spacing) a.self.now.table (length a.cols.now) a.s c.loop-i.i a.self.now.cells.now (drop c.loop-i.i a.self.now.asks.now) c.loop-i.cols (omega arith)) ∙ c.loop-i.invariant

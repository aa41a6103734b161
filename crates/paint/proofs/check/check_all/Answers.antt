use Rattle.std.proofs.Common.{sym, ◌∙◌, arith}
use Rattle.std.proofs.lemmas.Result.{err_from_is_err_and}
use Rattle.paint.proofs.Checks.{goes_on, stops, ends}
use Rattle.paint.proofs.check.check_all.Goals as goal

pub returns-in_err-check : goal.returns-in_err-check
returns-in_err-check g c wrong finds =
    let p = err_from_is_err_and c.from_residual.result c.from_residual.ensures.1 in
    rw (p.1, p.2) (stops wrong c.args.cells.now c.loop-i.i (omega arith) (c.loop-i.invariant wrong finds) _ (sym (finds _ _ _ c.check.ensures) ∙ c.in_err-check.was))

pub loop-i-preserved : goal.loop-i-preserved
loop-i-preserved g c wrong finds = goes_on wrong c.args.cells.now c.loop-i.i (omega arith) (c.loop-i.invariant wrong finds) _ (sym (finds _ _ _ c.check.ensures) ∙ c.in_ok-check.was)

pub returns : goal.returns
returns g c wrong finds = ends wrong c.args.cells.now c.loop-i.i (omega arith) (c.loop-i.invariant wrong finds)

use Rattle.std.proofs.Common.{false, refl, ap}
use Rattle.std.proofs.lemmas.Result.{err_from_is_err_and}
use Rattle.runs.specs.Calls.{Width, changed}
use Rattle.engine.specs.View.{state}
use Rattle.engine.proofs.Same.{same_sheet}
use Rattle.engine.proofs.Steps.{reached_changed}
use Rattle.engine.proofs.hold.Sheet.width.Goals as goal

pub returns-in_err-fix_width : goal.returns-in_err-fix_width
returns-in_err-fix_width c =
    let p = err_from_is_err_and c.from_residual.result c.from_residual.ensures.1 in
    let d = c.in_err-fix_width.ensures in
    rw (p.1, p.2) (ap (changed (state c.args.self.now) false) d.0, same_sheet _ _ d.1 refl refl)

pub invariant_of-self-2 : goal.invariant_of-self-2
invariant_of-self-2 c =
    let m = c.args.self.now in
    record { reached = reached_changed m.tables c.fix_width.new.tables m.cells m.laid false (Width c.args.t c.args.j c.args.width) _ refl c.in_ok-fix_width.ensures m.reached }

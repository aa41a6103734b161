use Rattle.std.proofs.Common.{false, refl, ap}
use Rattle.std.proofs.lemmas.Result.{err_from_is_err_and}
use Rattle.runs.specs.Calls.{Row, changed}
use Rattle.engine.specs.View.{state}
use Rattle.engine.proofs.Same.{same_sheet}
use Rattle.engine.proofs.Steps.{reached_changed}
use Rattle.engine.proofs.hold.Sheet.row.Goals as goal

pub returns-in_err-begin_row : goal.returns-in_err-begin_row
returns-in_err-begin_row c =
    let p = err_from_is_err_and c.from_residual.result c.from_residual.ensures.1 in
    let d = c.in_err-begin_row.ensures in
    rw (p.1, p.2) (ap (changed (state c.args.self.now) false) d.0, same_sheet _ _ d.1 refl refl)

pub invariant_of-self-2 : goal.invariant_of-self-2
invariant_of-self-2 c =
    let m = c.args.self.now in
    record { reached = reached_changed m.tables c.begin_row.new.tables m.cells m.laid false (Row c.args.t) _ refl c.in_ok-begin_row.ensures m.reached }

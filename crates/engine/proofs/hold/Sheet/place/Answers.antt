use Rattle.std.proofs.Common.{refl, ap, ◌∙◌}
use Rattle.std.proofs.lemmas.Result.{err_from_is_err_and}
use Rattle.runs.specs.Calls.{Place, added}
use Rattle.engine.specs.View.{state}
use Rattle.engine.proofs.Same.{same_sheet}
use Rattle.engine.proofs.Steps.{added_so, reached_added, place_is}
use Rattle.engine.proofs.hold.Sheet.place.Goals as goal

pub returns-in_err-cell : goal.returns-in_err-cell
returns-in_err-cell c =
    let m = c.args.self.now in
    let p = err_from_is_err_and c.from_residual.result c.from_residual.ensures.1 in
    let d = c.in_err-cell.ensures in
    rw (p.1, p.2) (place_is (state m) m.reached c.args.t c.args.across c.args.down c.args.content ∙ ap added d.is, same_sheet _ _ d.tables_same d.cells_same refl)

pub invariant_of-self-2 : goal.invariant_of-self-2
invariant_of-self-2 c =
    let m = c.args.self.now in
    let is = place_is (state m) m.reached c.args.t c.args.across c.args.down c.args.content in
    record { reached = reached_added m.tables c.place_content.new.tables m.cells c.place_content.new.cells m.laid (Place c.args.t c.args.content c.args.across c.args.down) _ is c.in_ok-cell.cell c.in_ok-cell.ensures m.reached }

pub returns : goal.returns
returns c =
    let m = c.args.self.now in
    let is = place_is (state m) m.reached c.args.t c.args.across c.args.down c.args.content in
    added_so m.tables c.place_content.new.tables m.cells c.place_content.new.cells m.laid (Place c.args.t c.args.content c.args.across c.args.down) _ is c.in_ok-cell.cell c.in_ok-cell.ensures

use Rattle.std.proofs.Common.{refl, ap, ◌∙◌}
use Rattle.std.proofs.lemmas.Result.{err_from_is_err_and}
use Rattle.runs.specs.Calls.{Nest, added}
use Rattle.engine.specs.View.{state}
use Rattle.engine.proofs.Same.{same_sheet}
use Rattle.engine.proofs.Steps.{added_so, reached_added, nest_is}
use Rattle.engine.proofs.hold.Sheet.nest.Goals as goal

pub returns-in_err-table : goal.returns-in_err-table
returns-in_err-table c =
    let m = c.args.self.now in
    let p = err_from_is_err_and c.from_residual.result c.from_residual.ensures.1 in
    let d = c.in_err-table.ensures in
    rw (p.1, p.2) (nest_is (state m) m.reached c.args.t c.args.across c.args.down c.args.count c.args.spacing ∙ ap added d.is, same_sheet _ _ d.tables_same d.cells_same refl)

pub invariant_of-self-2 : goal.invariant_of-self-2
invariant_of-self-2 c =
    let m = c.args.self.now in
    let is = nest_is (state m) m.reached c.args.t c.args.across c.args.down c.args.count c.args.spacing in
    record { reached = reached_added m.tables c.nest_table.new.tables m.cells c.nest_table.new.cells m.laid (Nest c.args.t c.args.across c.args.down c.args.count c.args.spacing) _ is c.in_ok-table.table c.in_ok-table.ensures m.reached }

pub returns : goal.returns
returns c =
    let m = c.args.self.now in
    let is = nest_is (state m) m.reached c.args.t c.args.across c.args.down c.args.count c.args.spacing in
    added_so m.tables c.nest_table.new.tables m.cells c.nest_table.new.cells m.laid (Nest c.args.t c.args.across c.args.down c.args.count c.args.spacing) _ is c.in_ok-table.table c.in_ok-table.ensures

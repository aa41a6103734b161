use Rattle.std.proofs.Common.{refl}
use Rattle.runs.specs.Calls.{Start}
use Rattle.engine.proofs.Steps.{reached_either, did_changed}
use Rattle.engine.proofs.hold.Sheet.start.Goals as goal

pub invariant_of-self : goal.invariant_of-self
invariant_of-self c =
    let m = c.args.self.now in
    record { reached = reached_either m.tables c.start_table.new.tables m.cells m.laid m.laid (Start c.args.count c.args.spacing) _ refl refl c.start_table.result c.start_table.ensures m.reached }

pub returns : goal.returns
returns c = did_changed c.args.self.now c.start_table.new.tables _ _ c.start_table.result c.start_table.ensures

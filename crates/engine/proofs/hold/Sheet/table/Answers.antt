use Rattle.runs.proofs.Same.{tied_reached}
use Rattle.engine.specs.View.{state}
use Rattle.engine.proofs.hold.Sheet.table.Goals as goal

pub returns-clause-tied : goal.returns-clause-tied
returns-clause-tied c = tied_reached (state c.args.self.now) c.args.self.now.reached

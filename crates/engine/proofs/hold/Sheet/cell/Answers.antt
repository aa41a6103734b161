use Rattle.runs.proofs.Planned.{planned_reached}
use Rattle.engine.specs.View.{state}
use Rattle.engine.proofs.hold.Sheet.cell.Goals as goal

pub returns-clause-planned : goal.returns-clause-planned
returns-clause-planned c = planned_reached (state c.args.self.now) c.args.self.now.reached

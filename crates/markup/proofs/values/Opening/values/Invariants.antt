use Rattle.std.proofs.Common.{◌≡◌, length}
use Rattle.markup.specs.Attributes.{values_of, no_values}
use Rattle.markup.specs.Tags.{may}
use Rattle.markup.proofs.values.Opening.values.Given as goal

abbrev pub invariant-loop-rest : goal.invariant-loop-rest
invariant-loop-rest l = values_of (may l.self.outermost l.self.name) l.values 0 l.rest ≡ values_of (may l.self.outermost l.self.name) no_values 0 l.bytes

abbrev pub decreases-loop-rest : goal.decreases-loop-rest
decreases-loop-rest l = length l.rest

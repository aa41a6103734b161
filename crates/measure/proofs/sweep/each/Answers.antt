use Rattle.std.proofs.Common.{arith}
use Rattle.std.proofs.lemmas.Grind.{common_steps}
use Rattle.measure.proofs.sweep.each.Goals as goal

pub loop-c-preserved : goal.loop-c-preserved
loop-c-preserved g c = (
  c.loop-c.invariant.0,
  λ h makes.
      let m = makes _ _ c.f.ensures in
      let i = c.loop-c.invariant.1 h makes in
      grind (arith, common_steps),
)

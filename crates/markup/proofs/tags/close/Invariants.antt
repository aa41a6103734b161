use Rattle.std.proofs.Common.{◌≡◌, ◌+◌, drop}
use Rattle.markup.specs.Tags.{before}
use Rattle.markup.proofs.Ends.{clean}
use Rattle.markup.proofs.tags.close.Given as goal

abbrev pub invariant-loop-n : goal.invariant-loop-n
invariant-loop-n l = (l.n + before (drop l.n l.rest) ≡ before l.rest) × (clean (drop l.n l.rest) ≡ clean l.rest)

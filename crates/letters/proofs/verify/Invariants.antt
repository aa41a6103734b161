use Rattle.std.proofs.Common.{◌≡◌}
use Rattle.letters.specs.Verdicts.{verdict}
use Rattle.letters.proofs.Judging.{verdict_from, SpelledTo}
use Rattle.letters.proofs.verify.Given as goal

abbrev pub invariant-loop-at : goal.invariant-loop-at
invariant-loop-at l = record {
  can : (goal.iterator-loop-at).can_next l.at-iterator;
  ends : (goal.iterator-loop-at).is_finite l.at-iterator;
  kind : l.at-iterator.kind ≡ l.kind;
  bytes : l.at-iterator.bytes.now ≡ l.s;
  value : verdict_from l.kind l.s l.at-iterator.at ≡ verdict l.kind l.s;
  spelled : SpelledTo l.kind l.s l.at-iterator.at;
}

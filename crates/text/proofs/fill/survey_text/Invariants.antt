use Rattle.std.proofs.Common.{◌≡◌, true}
use Rattle.typeset.proofs.Survey.{Counting}
use Rattle.text.proofs.fill.survey_text.Given as goal

abbrev pub invariant-loop-word : goal.invariant-loop-word
invariant-loop-word l = record {
  can : (goal.iterator-loop-word).can_next l.word-iterator;
  ends : (goal.iterator-loop-word).is_finite l.word-iterator;
  bytes : l.word-iterator.bytes.now ≡ l.s;
  counting : Counting l.s l.w l.r l.word-iterator.at true l.least l.most l.high l.taken l.start;
}

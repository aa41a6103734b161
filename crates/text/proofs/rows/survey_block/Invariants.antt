use Rattle.std.proofs.Common.{◌≡◌, true}
use Rattle.letters.specs.declared.Kind.TheVariants.{Block}
use Rattle.typeset.proofs.Tally.{Tallied}
use Rattle.text.proofs.rows.survey_block.Given as goal

abbrev pub invariant-loop-letter : goal.invariant-loop-letter
invariant-loop-letter l = record {
  can : (goal.iterator-loop-letter).can_next l.letter-iterator;
  ends : (goal.iterator-loop-letter).is_finite l.letter-iterator;
  kind : l.letter-iterator.kind ≡ Block;
  bytes : l.letter-iterator.bytes.now ≡ l.s;
  tallied : Tallied l.s l.r l.letter-iterator.at true l.least l.width l.high l.start;
}

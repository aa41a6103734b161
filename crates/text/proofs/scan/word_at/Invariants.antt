use Rattle.std.proofs.Common.{◌≡◌, ◌+◌, ◌≤◌, ◌&&◌}
use Rattle.letters.specs.Letters.{letters_from, sound}
use Rattle.letters.specs.declared.Kind.TheVariants.{Text}
use Rattle.typeset.proofs.Steps.{Running}
use Rattle.text.proofs.scan.word_at.Given as goal

abbrev pub invariant-loop-at : goal.invariant-loop-at
invariant-loop-at l = record {
  can : (goal.iterator-loop-at).can_next l.at-iterator;
  ends : (goal.iterator-loop-at).is_finite l.at-iterator;
  kind : l.at-iterator.kind ≡ Text;
  bytes : l.at-iterator.bytes.now ≡ l.s;
  low : l.from + l.width ≤ l.at-iterator.at;
  none : l.width ≡ 0 → l.at-iterator.at ≡ l.from;
  running : Running l.s (letters_from Text l.s l.from) l.at-iterator.at l.width;
  checked : sound (letters_from Text l.s l.from) ≡ (l.good && sound (letters_from Text l.s l.at-iterator.at));
}

use Rattle.std.proofs.Common.{◌≡◌, ◌≤◌}
use Rattle.letters.specs.Letters.{letters_from, sound}
use Rattle.letters.specs.declared.Kind.TheVariants.{Text}
use Rattle.typeset.specs.Words.{words_from}
use Rattle.text.proofs.scan.Words.next_start.Given as goal

abbrev pub invariant-loop-at : goal.invariant-loop-at
invariant-loop-at l = record {
  can : (goal.iterator-loop-at).can_next l.at-iterator;
  ends : (goal.iterator-loop-at).is_finite l.at-iterator;
  kind : l.at-iterator.kind ≡ Text;
  bytes : l.at-iterator.bytes.now ≡ l.self.bytes.now;
  low : l.self.at ≤ l.at-iterator.at;
  same : words_from l.self.bytes.now l.self.at ≡ words_from l.self.bytes.now l.at-iterator.at;
  kept : sound (letters_from Text l.self.bytes.now l.self.at) ≡ sound (letters_from Text l.self.bytes.now l.at-iterator.at);
}

use Rattle.std.proofs.Common.{◌≡◌, take, drop}
use Rattle.letters.specs.Letters.{letters, letters_from}
use Rattle.letters.specs.declared.Kind.TheVariants.{Text}
use Rattle.text.proofs.fill.write_word.Given as goal

abbrev pub invariant-loop-x : goal.invariant-loop-x
invariant-loop-x l = record {
  kind : l.letters.kind ≡ Text;
  bytes : l.letters.bytes.now ≡ l.s;
  left : drop l.x-index (letters Text l.s) ≡ letters_from Text l.s l.letters.at;
  written : take l.x-index l.out ≡ take l.x-index (letters Text l.s);
}

use Rattle.std.proofs.Common.{◌≡◌, ◌+◌, ◌≤◌, length}
use Rattle.typeset.specs.Words.{words_from, longest}
use Rattle.typeset.specs.Lines.{filled, lines, first}
use Rattle.typeset.proofs.Overlay.{overlaid}
use Rattle.text.proofs.fill.write_text.Given as goal

abbrev pub invariant-loop-word : goal.invariant-loop-word
invariant-loop-word l = record {
  can : (goal.iterator-loop-word).can_next l.word-iterator;
  ends : (goal.iterator-loop-word).is_finite l.word-iterator;
  bytes : l.word-iterator.bytes.now ≡ l.s;
  within : l.col ≤ length l.initial.out + 1;
  fits : longest (words_from l.s l.word-iterator.at) ≤ length l.initial.out;
  written : overlaid l.out l.col (first (filled (length l.initial.out) l.col (words_from l.s l.word-iterator.at))) ≡ overlaid l.initial.out 0 (first (lines (length l.initial.out) (words_from l.s 0)));
}

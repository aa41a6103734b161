use Rattle.std.proofs.Common.{◌≡◌, length}
use Rattle.letters.specs.Letters.{letters}
use Rattle.letters.specs.declared.Kind.TheVariants.{Block}
use Rattle.typeset.specs.Lines.{first}
use Rattle.typeset.specs.Rows.{rows}
use Rattle.typeset.proofs.Tally.{Writing}
use Rattle.text.proofs.rows.write_row.Given as goal

abbrev pub invariant-loop-x : goal.invariant-loop-x
invariant-loop-x l = record {
  kind : l.letters.kind ≡ Block;
  bytes : l.letters.bytes.now ≡ l.s;
  writing : Writing l.s (first (rows (letters Block l.s))) l.out (length l.initial.out) l.letters.at l.x-index;
}

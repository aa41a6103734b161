use Rattle.std.proofs.Common.{◌+◌, length, sym, subst, set, arith}
use Rattle.letters.specs.Letters.{letters}
use Rattle.letters.specs.declared.Kind.TheVariants.{Block}
use Rattle.letters.proofs.Walking.{moved}
use Rattle.typeset.specs.Lines.{first}
use Rattle.typeset.specs.Rows.{rows}
use Rattle.typeset.proofs.Tally.{Writing, writing_more}
use Rattle.text.proofs.rows.write_row.Goals as goal

pub loop-x-preserved : goal.loop-x-preserved
loop-x-preserved c =
    let i = c.loop-x.invariant in
    let s = c.args.s.now in
    let l = c.in-Some.letter in
    let m = moved Block _ _ s _ _ _ _ _ i.kind i.bytes c.in-Some.ensures.steps in
    let all = writing_more _ _ _ _ _ _ _ _ (omega arith) m.standing.stepped.step c.if-letter-ne10.true i.writing in
    let x = c.loop-x.x-index in
    record {
      kind = m.kind_same;
      bytes = m.bytes_same;
      writing = subst (λ at. Writing s (first (rows (letters Block s))) (set c.loop-x.out x l.glyph) (length c.args.out.now) at (x + 1)) (sym m.standing.next_is) all;
    }

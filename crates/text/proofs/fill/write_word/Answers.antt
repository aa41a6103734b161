use Rattle.std.proofs.Common.{sym, ap, ◌∙◌, arith}
use Rattle.letters.specs.Letters.{letters, letters_from}
use Rattle.letters.specs.declared.Kind.TheVariants.{Text}
use Rattle.letters.proofs.Walking.{moved}
use Rattle.typeset.proofs.Filling.{write_more}
use Rattle.text.proofs.fill.write_word.Goals as goal

pub loop-x-preserved : goal.loop-x-preserved
loop-x-preserved c =
    let i = c.loop-x.invariant in
    let l = c.in-Some.letter in
    let m = moved Text _ _ c.args.s.now _ _ _ _ _ i.kind i.bytes c.in-Some.ensures.steps in
    let p = write_more c.args.s.now (letters Text c.args.s.now) c.loop-x.out c.loop-x.x-index l.glyph l.next c.loop-x.letters.at i.left m.standing.stepped.step i.written (omega arith) in
    record { kind = m.kind_same; bytes = m.bytes_same; left = p.0 ∙ ap (letters_from Text c.args.s.now) (sym m.standing.next_is); written = p.1 }

use Rattle.std.proofs.Common.{◌≡◌, ◌+◌, ◌&&◌, sym, ap, ◌∙◌, subst, arith}
use Rattle.letters.specs.Letters.{letters_from, sound}
use Rattle.letters.specs.declared.Kind.TheVariants.{Text}
use Rattle.letters.proofs.Walking.{moved}
use Rattle.typeset.proofs.Steps.{Running, run_more, sound_more}
use Rattle.text.proofs.scan.word_at.Goals as goal

pub loop-at-preserved : goal.loop-at-preserved
loop-at-preserved c =
    let i = c.loop-at.invariant in
    let s = c.args.s.now in
    let all = letters_from Text s c.args.from in
    let m = moved Text _ _ s _ _ _ _ _ i.kind i.bytes c.in-Some.ensures.steps in
    let p = m.standing.stepped in
    let n = c.loop-at.width in
    record {
      can = tt;
      ends = tt;
      kind = m.kind_same;
      bytes = m.bytes_same;
      low = omega (arith, p.low, m.standing.next_is);
      none = λ e. absurd (omega arith);
      running = subst (λ j. Running s all j (n + 1)) (sym m.standing.next_is) (run_more s all _ n _ _ p.step (sym c.if-is_white.ensures) i.running);
      checked = subst (λ j. sound all ≡ ((c.loop-at.good && c.is_character-good.result) && sound (letters_from Text s j))) (sym m.standing.next_is) (sound_more Text s all _ _ _ c.loop-at.good p.step i.checked ∙ ap (λ b. (c.loop-at.good && b) && sound (letters_from Text s c.in-Some.letter.next)) (sym c.is_character-good.ensures));
    }

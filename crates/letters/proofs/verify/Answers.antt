use Rattle.std.proofs.Common.{◌≡◌, ℕ, min, length, sym, ap, ◌∙◌, subst, arith}
use Rattle.std.proofs.lemmas.Bool.Decides.{nat_tests}
use Rattle.letters.specs.Spelling.{nothing}
use Rattle.letters.proofs.Judging.{SpelledTo, verdict_from, verdict_more, spelled_more, letter_parts}
use Rattle.letters.proofs.Walking.{moved}
use Rattle.letters.proofs.verify.Goals as goal

pub loop-at-init : goal.loop-at-init
loop-at-init c =
    let first : ◌≡◌ {A = ℕ} 0 (min 0 (length c.args.s.now)) = omega arith in
    let start : 0 ≡ c.into_iter-at-iterator.result.at = first ∙ sym c.new-at-items.ensures.at ∙ cc in
    record { can = tt; ends = tt; kind = cc; bytes = cc; value = ap (verdict_from c.args.kind c.args.s.now) (sym start); spelled = subst (SpelledTo c.args.kind c.args.s.now) start nothing }

pub loop-at-preserved : goal.loop-at-preserved
loop-at-preserved c =
    let i = c.loop-at.invariant in
    let l = c.in-Some.letter in
    let m = moved c.args.kind _ _ c.args.s.now _ _ _ _ _ i.kind i.bytes c.in-Some.ensures.steps in
    let p = letter_parts c.args.kind c.args.s.now c.loop-at.at-iterator.at l m.standing.letter_is in
    let some : l.glyph ≡ 0 → ⊥ = λ e. grind (arith, nat_tests, c.is_character.ensures) in
    record {
      can = tt;
      ends = tt;
      kind = m.kind_same;
      bytes = m.bytes_same;
      value = ap (verdict_from c.args.kind c.args.s.now) m.standing.next_is ∙ sym (verdict_more c.args.kind c.args.s.now _ l.glyph l.next p.0 p.1 p.2 some) ∙ i.value;
      spelled = subst (SpelledTo c.args.kind c.args.s.now) (sym m.standing.next_is) (spelled_more c.args.kind c.args.s.now _ l.glyph l.next p.1 p.2 some i.spelled);
    }

use Rattle.std.proofs.Common.{ℕ, ◌+◌, ◌<◌, length, drop, Some, None, ap, ◌∙◌, arith}
use Rattle.std.proofs.lemmas.List.{take_rest}
use Rattle.std.proofs.lemmas.Bool.{cond_below}
use Rattle.letters.specs.declared.Letter.{Letter}
use Rattle.letters.specs.Letters.{letter_of}
use Rattle.letters.proofs.Steps.{stepped}
use Rattle.letters.proofs.next_letter.Goals as goal

pub returns : goal.returns
returns c =
    let s = c.args.s.now in
    let at = c.args.at in
    let h : at < length s = omega arith in
    let e = c.first_letter-glyph.ensures ∙ ap (letter_of c.args.kind) (take_rest s at) in
    let made : ℕ × ℕ → Letter = λ p. record { glyph = p.0; next = at + 1 + p.1 } in
    record {
      value = ap (λ p. Some (made p)) e ∙ cond_below at (length s) (Some (made (letter_of c.args.kind (drop at s)))) None h;
      steps = stepped c.args.kind s at c.first_letter-glyph.result h e;
    }

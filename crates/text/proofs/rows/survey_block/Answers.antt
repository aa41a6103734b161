use Rattle.std.proofs.Common.{◌≡◌, ℕ, Bool, ◌+◌, true, max, sym, ap, ◌∙◌, subst}
use Rattle.letters.specs.declared.Kind.TheVariants.{Block}
use Rattle.letters.proofs.Walking.{moved}
use Rattle.typeset.specs.Contents.{measured}
use Rattle.typeset.proofs.Tally.{Tallied, tallied_keep, tallied_break, tallied_all}
use Rattle.text.proofs.rows.survey_block.Goals as goal

pub loop-letter-preserved-then-letter-eq10 : goal.loop-letter-preserved-then-letter-eq10
loop-letter-preserved-then-letter-eq10 c =
    let i = c.loop-letter.invariant in
    let m = moved Block _ _ c.args.s.now _ _ _ _ _ i.kind i.bytes c.in-Some.ensures.steps in
    let all = tallied_break _ _ _ _ _ _ _ _ _ _ m.standing.stepped i.tallied _ _ c.if-letter-eq10.true c.max-least.ensures c.begin-start.ensures in
    record {
      can = tt;
      ends = tt;
      kind = m.kind_same;
      bytes = m.bytes_same;
      tallied = subst (λ at. Tallied c.args.s.now c.args.r at true c.max-least.result 0 (c.loop-letter.high + 1) c.begin-start.result) (sym m.standing.next_is) all;
    }

pub loop-letter-preserved : goal.loop-letter-preserved
loop-letter-preserved c =
    let i = c.loop-letter.invariant in
    let m = moved Block _ _ c.args.s.now _ _ _ _ _ i.kind i.bytes c.in-Some.ensures.steps in
    let all = tallied_keep _ _ _ _ _ _ _ _ _ _ m.standing.stepped i.tallied c.if-letter-eq10.false in
    let of : Bool → ℕ → Type 0 = λ good at. Tallied c.args.s.now c.args.r at good c.loop-letter.least (c.loop-letter.width + 1) c.loop-letter.high c.loop-letter.start in
    record {
      can = tt;
      ends = tt;
      kind = m.kind_same;
      bytes = m.bytes_same;
      tallied = subst (of true) (sym m.standing.next_is) (subst (λ good. of good c.in-Some.letter.next) (sym c.is_character.ensures ∙ c.if-is_character.true) all);
    }

pub returns : goal.returns
returns c =
    let i = c.loop-letter.invariant in
    let m = moved Block _ _ c.args.s.now _ _ _ _ _ i.kind i.bytes c.in-None.ensures.steps in
    let wide : c.measure-wide.result ≡ measured (max c.loop-letter.width c.loop-letter.least) = c.measure-wide.ensures ∙ ap measured c.max.ensures in
    tallied_all _ _ _ _ _ _ _ _ _ _ _ wide c.capped.ensures m.standing.1 i.tallied

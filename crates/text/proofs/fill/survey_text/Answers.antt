use Rattle.std.proofs.Common.{◌≡◌, ℕ, Bool, ◌+◌, ◌-◌, true, min, sym, ap, ◌∙◌, subst, arith}
use Rattle.typeset.specs.Contents.{measured}
use Rattle.typeset.proofs.Survey.{Counting, counting_fits, counting_breaks, counting_all, wider}
use Rattle.text.proofs.Scanning.{scanned}
use Rattle.text.proofs.fill.survey_text.Goals as goal

pub loop-word-preserved-then-taken-word : goal.loop-word-preserved-then-taken-word
loop-word-preserved-then-taken-word c =
    let i = c.loop-word.invariant in
    let m = scanned c.args.s.now _ _ _ _ _ i.bytes c.in-Some.ensures.steps in
    let v = c.in-Some.word in
    let good : v.good ≡ true = grind (arith, c.if-not-word.false) in
    let most : c.min-most.result ≡ wider c.loop-word.most v.width = c.min-most.ensures ∙ ap (λ k. min (c.loop-word.most + k + 1) 65536) c.min.ensures in
    let all = counting_fits _ _ _ _ _ _ _ _ _ _ _ _ _ _ m.scan.found m.scan.checked i.counting _ _ c.max-least.ensures most c.if-taken-word.true in
    let of : Bool → ℕ → Type 0 = λ good at. Counting c.args.s.now c.args.w c.args.r at good c.max-least.result c.min-most.result c.loop-word.high (c.loop-word.taken + (v.width + 1)) c.loop-word.start in
    record { can = tt; ends = tt; bytes = m.bytes_same; counting = subst (of true) (sym m.scan.next_is) (subst (λ good. of good v.to) good all) }

pub loop-word-preserved : goal.loop-word-preserved
loop-word-preserved c =
    let i = c.loop-word.invariant in
    let m = scanned c.args.s.now _ _ _ _ _ i.bytes c.in-Some.ensures.steps in
    let v = c.in-Some.word in
    let good : v.good ≡ true = grind (arith, c.if-not-word.false) in
    let most : c.min-most.result ≡ wider c.loop-word.most v.width = c.min-most.ensures ∙ ap (λ k. min (c.loop-word.most + k + 1) 65536) c.min.ensures in
    let all = counting_breaks _ _ _ _ _ _ _ _ _ _ _ _ _ _ m.scan.found m.scan.checked i.counting _ _ c.max-least.ensures most v.from _ m.scan.inside (sym m.scan.same) c.begin-start.ensures c.if-taken-word.false in
    let of : Bool → ℕ → Type 0 = λ good at. Counting c.args.s.now c.args.w c.args.r at good c.max-least.result c.min-most.result (c.loop-word.high + 1) (v.width + 1) c.begin-start.result in
    record { can = tt; ends = tt; bytes = m.bytes_same; counting = subst (of true) (sym m.scan.next_is) (subst (λ good. of good v.to) good all) }

pub returns : goal.returns
returns c =
    let i = c.loop-word.invariant in
    let m = scanned c.args.s.now _ _ _ _ _ i.bytes c.in-None.ensures.steps in
    let most : c.measure-2.result ≡ measured (c.loop-word.most - 1) = c.measure-2.ensures ∙ ap measured c.saturating_sub.ensures in
    counting_all _ _ _ _ _ _ _ _ _ _ _ _ _ c.measure.ensures most c.capped.ensures m.scan.1 m.scan.2 i.counting

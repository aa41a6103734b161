use Rattle.std.proofs.Common.{◌≡◌, ◌+◌, ◌-◌, ◌*◌, ◌^◌, ◌<◌, ◌≤◌, length, get_or, drop, sym, ap, ◌∙◌, pow-suc, add-one, arith}
use Rattle.std.proofs.lemmas.List.{at_drop_more, at_drop_all}
use Rattle.markup.specs.Spans.{number}
use Rattle.markup.proofs.spans.number.Goals as goal

pub loop-d-preserved : goal.loop-d-preserved
loop-d-preserved c =
    let i = c.loop-d.d-index in
    let xs = c.args.digits.now in
    let n = c.loop-d.n in
    let h : i < length xs = omega arith in
    let e : number n (drop i xs) ≡ number (n * 10 + (get_or xs i 0 - 48)) (drop (i + 1) xs) = at_drop_more (number n) xs i 0 h in
    let p : 10 ^ (i + 1) ≡ 10 ^ i * 10 = rw add-one (pow-suc 10 i) in
    (ap (λ z. number (n * 10 + z) (drop (i + 1) xs)) (c.from.ensures ∙ c.saturating_sub.ensures) ∙ (sym e ∙ c.loop-d.invariant.0), omega (arith, p, c.loop-d.invariant.1, c.saturating_sub.ensures, c.type_inv.digits i))

pub returns : goal.returns
returns c =
    let h : length c.args.digits.now ≤ c.loop-d.d-index = omega arith in
    sym (at_drop_all (number c.loop-d.n) c.args.digits.now c.loop-d.d-index h) ∙ c.loop-d.invariant.0

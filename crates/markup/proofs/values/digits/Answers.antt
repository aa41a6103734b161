use Rattle.std.proofs.Common.{◌≤◌, ◌≡◌, length, sym, ap, ◌∙◌, arith, length-take-le}
use Rattle.std.proofs.lemmas.Bool.{eqb-false}
use Rattle.markup.specs.Spans.{digit, front}
use Rattle.markup.proofs.Runs.{front_le}
use Rattle.markup.proofs.Steps.{digits_left}
use Rattle.markup.proofs.values.digits.Goals as goal

pub returns : goal.returns
returns c =
    let xs = c.args.bytes.now in
    let n = front digit xs in
    let l : length c.split_run.result.0.now ≡ n = ap length c.split_run.ensures.run ∙ length-take-le n xs (front_le digit xs) in
    let a : 1 ≤ n = omega (arith, eqb-false (length c.split_run.result.0.now) 0 (sym c.is_empty.ensures ∙ c.if-is_empty.false)) in
    let b : n ≤ 5 = omega (arith, c.if-digits-gt5.false) in
    let e = digits_left xs n a b in
    cc

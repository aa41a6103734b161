use Rattle.std.proofs.Common.{◌≡◌, ◌+◌, ◌<◌, length, map, get_or, sym, ap, ◌∙◌, arith}
use Rattle.std.proofs.lemmas.List.{drop_more, drop-set-lt}
use Rattle.share.specs.Share.{total}
use Rattle.plan.specs.Blank.{blank_column}
use Rattle.measure.proofs.Deal.{sum_more, dealt_more, dealt_all, dealt_is, dealt}
use Rattle.measure.proofs.sweep.deal.Goals as goal

pub loop-c-preserved : goal.loop-c-preserved
loop-c-preserved g c =
    let cs = c.loop-c.cols in
    let i = c.loop-c.c-index in
    let lt : i < length cs = omega arith in
    let d = drop-set-lt (i + 1) cs i c.give.new.arg2 (omega arith) in
    let rest = c.loop-c.invariant.rest in
    let v : c.from.result ≡ rest.0 (get_or cs i blank_column) = c.from.ensures ∙ rest.1 _ _ c.weight.ensures in
    let takes = rw (drop_more cs i blank_column lt) at rest.2 in
    record {
      callable = c.loop-c.invariant.callable;
      small = omega arith;
      rest = (rest.0, rest.1, rw (v, d) takes.1, rw d (omega (arith, sum_more rest.0 cs i lt)));
      deal = λ w f says gives.
          dealt_more w f c.args.amount c.sum_of-sum.result c.loop-c.before cs i c.from.result c.part.result c.give.new.arg2 _ lt
          (c.from.ensures ∙ says _ _ c.weight.ensures) c.part.ensures.value (gives _ _ _ c.give.ensures) (c.loop-c.invariant.deal w f says gives);
    }

pub returns : goal.returns
returns g c w f says gives =
    let sum : c.sum_of-sum.result ≡ total (map w c.args.cols.now) = c.sum_of-sum.ensures.value w (λ x n k. says _ _ k) in
    dealt_all w f c.args.amount c.sum_of-sum.result c.loop-c.before c.loop-c.cols c.loop-c.c-index _ (omega arith) (c.loop-c.invariant.deal w f says gives)
    ∙ ap (λ n. dealt w f c.args.amount n 0 c.args.cols.now) sum
    ∙ sym (dealt_is w f c.args.amount _ 0 c.args.cols.now)

use Rattle.std.proofs.Common.{◌≡◌, ◌∙◌, rules, arith}
use Rattle.share.specs.Share.{total}
use Rattle.columns.specs.Columns.{leasts, greatests}
use Rattle.measure.specs.Bounds.{bound_of}
use Rattle.measure.specs.Widths.{as_wide}
use Rattle.measure.specs.declared.column.Bound.TheVariants.{Least, Greatest}
use Rattle.measure.proofs.Give.{room, spread, past, gives_least, gives_greatest, gives_between}
use Rattle.measure.proofs.Deal.{widen_may}
use Rattle.measure.proofs.width.give.Goals as goal
use Rattle.measure.proofs.width.give.Goals.{then-offered-least, else-offered-least+then-greatest-offered, else-offered-least+else-greatest-offered}

pub deal-requires-clause-takes : goal.deal-requires-clause-takes
deal-requires-clause-takes c =
    let least : c.sum_of.result ≡ total (leasts c.args.cols.now) = c.sum_of.ensures.value (bound_of Least) (λ x n k. search rules) in
    let greatest : c.sum_of-2.result ≡ total (greatests c.args.cols.now) = c.sum_of-2.ensures.value (bound_of Greatest) (λ x n k. search rules) in
    widen_may _ c.args.cols.now (λ x n k. search rules) (omega (arith, room c.args.cols.now)) (λ d p h. search rules)

pub returns : goal.returns
returns c =
    let q = c.from.result in
    let A = c.args.offered in
    let cs = c.args.cols.now in
    let ds = c.if-offered-least.cols in
    let least : c.sum_of.result ≡ total (leasts cs) = c.sum_of.ensures.value (bound_of Least) (λ x n k. search rules) in
    let greatest : c.sum_of-2.result ≡ total (greatests cs) = c.sum_of-2.ensures.value (bound_of Greatest) (λ x n k. search rules) in
    rw (← c.from.ensures) (record {
      widths =
          elim c.if-offered-least.branch [
            | then-offered-least w ↦
                gives_least q A cs ds (omega arith) (w.cols-is ∙ w.each.ensures (λ d. as_wide (bound_of Least d) d) (λ d e k. search rules))
            | else-offered-least+then-greatest-offered w ↦
                gives_greatest q A cs ds (omega arith) (omega arith)
                (w.cols-is ∙ w.each-then-greatest-offered.ensures (λ d. as_wide (bound_of Greatest d) d) (λ d e k. search rules))
            | else-offered-least+else-greatest-offered w ↦
                gives_between q A cs ds c.sum_of.result least (omega arith) (omega arith) (w.cols-is ∙ w.deal.ensures spread past (λ x n k. search rules) (λ x d p k. search rules))
          ];
      overflow = omega arith;
    })

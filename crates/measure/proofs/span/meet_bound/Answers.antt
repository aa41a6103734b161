use Rattle.std.proofs.Common.{◌≡◌, ◌-◌, ◌*◌, length, map, rules, tests, arith}
use Rattle.columns.specs.Columns.{weight, need}
use Rattle.measure.specs.Bounds.{bound_of, more}
use Rattle.measure.proofs.Deal.{meet_may, meet_from}
use Rattle.measure.proofs.span.meet_bound.Goals as goal

pub deal-requires-clause-takes : goal.deal-requires-clause-takes
deal-requires-clause-takes c =
    let has = c.sum_of-has.ensures.value (bound_of c.args.bound) (λ x n k. search (rules, tests)) in
    meet_may c.args.bound (weight c.all_share-all.result) c.saturating_sub-need.result c.args.cols.now (λ x n k. search (rules, tests)) (omega arith) (λ d p h. search (rules, tests))

pub returns : goal.returns
returns c =
    let has = c.sum_of-has.ensures.value (bound_of c.args.bound) (λ x n k. search (rules, tests)) in
    let short : c.saturating_sub.result ≡ length c.args.cols.now - 1 = omega arith in
    let between : c.saturating_sub.result * c.from.result ≡ (length c.args.cols.now - 1) * c.args.spacing = cc in
    let need_is : c.saturating_sub-need.result ≡ need c.args.spacing (length c.args.cols.now) c.args.wanted (map (bound_of c.args.bound) c.args.cols.now) = omega arith in
    meet_from c.args.bound c.args.spacing c.args.wanted c.args.cols.now c.deal.new.cols c.saturating_sub-need.result c.all_share-all.result need_is c.all_share-all.ensures
    (c.deal.ensures (weight c.all_share-all.result) (more c.args.bound) (λ x n k. search (rules, tests)) (λ x d p k. search (rules, tests)))

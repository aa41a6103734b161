use Rattle.std.proofs.Common.{◌≡◌, ◌≤◌, length, map, rules, tests, ◌∙◌, sym, sum, arith}
use Rattle.std.proofs.iter.runs.Made.{seen}
use Rattle.std.proofs.lemmas.Iterator.{YieldsList-from_slice}
use Rattle.std.proofs.lemmas.Iterator.Adapters.{fits_from_length, at_most_from_yields_List}
use Rattle.measure.proofs.Deal.{total_is_sum}
use Rattle.measure.proofs.sweep.sum_of.Goals as goal

pub returns-clause-value : goal.returns-clause-value
returns-clause-value g c w says =
    let e : c.sum.result ≡ sum (map w c.args.cols.now) = search rules in
    e ∙ sym (total_is_sum (map w c.args.cols.now))

pub returns-clause-small : goal.returns-clause-small
returns-clause-small g c =
    let p = c.sum.ensures.runs (search rules) in
    let few : length c.args.cols.now ≤ 32 = c.requires.few in
    let fits = fits_from_length {s = c.map.result} _ _ 32 2097121 (at_most_from_yields_List (YieldsList-from_slice c.args.cols.now cc) few) c.map.ensures.closure (omega arith) (λ x r q k. search (rules, tests)) p.0 (seen _) p.1 in
    omega (arith, fits, p.3)

use Rattle.std.proofs.Common.{◌≡◌, rules, tests, ◌∙◌, ap}
use Rattle.std.specs.Prelude.{not}
use Rattle.std.specs.List.{list_any}
use Rattle.std.proofs.lemmas.Iterator.{YieldsList-from_slice}
use Rattle.std.proofs.lemmas.Iterator.Search.{any_from_yields_List}
use Rattle.columns.specs.Columns.{free}
use Rattle.measure.proofs.Deal.{none_free-any}
use Rattle.measure.proofs.column.Bound.all_share.Goals as goal

pub returns-in-Least : goal.returns-in-Least
returns-in-Least c =
    let e : c.any.result ≡ list_any free c.args.cols.now =
    any_from_yields_List free _ _ _ c.any.ensures.ran (YieldsList-from_slice c.args.cols.now cc) (λ x b q k. search (rules, tests)) in
    rw c.in-Least.is (ap not e ∙ none_free-any c.args.cols.now)

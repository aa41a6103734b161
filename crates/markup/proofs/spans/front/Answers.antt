use Rattle.std.proofs.Common.{length, not, ◌∙◌, ap, rules, tests}
use Rattle.std.specs.Option.{unwrap_or}
use Rattle.std.proofs.lemmas.Iterator.{YieldsList-from_slice}
use Rattle.std.proofs.lemmas.Iterator.Search.{position_from_yields_List}
use Rattle.markup.specs.Views.{in_span}
use Rattle.markup.proofs.Runs.{first_not}
use Rattle.markup.proofs.spans.front.Goals as goal

pub returns : goal.returns
returns c =
    let xs = c.args.bytes.now in
    let p = in_span c.args.span in
    c.unwrap_or.ensures ∙
    ap (λ o. unwrap_or o (length xs)) (position_from_yields_List (λ b. not (p b)) _ _ c.position.result c.position.ensures.ran (YieldsList-from_slice xs cc) (λ x b q k. search (rules, tests))) ∙
    first_not p xs

use Rattle.std.proofs.Common.{◌≡◌, ap, ◌∙◌, rules, tests}
use Rattle.std.specs.Option.{option_map}
use Rattle.std.specs.Str.{str_eq_ignore_ascii_case}
use Rattle.std.proofs.lemmas.Iterator.{YieldsList-from_slice}
use Rattle.std.proofs.lemmas.Iterator.Search.{find_from_yields_List}
use Rattle.markup.proofs.Words.{spelled_behind}
use Rattle.markup.proofs.spans.spelled.Goals as goal

pub returns : goal.returns
returns g c =
    let bs = c.args.bytes.now in
    let f = find_from_yields_List (λ w. str_eq_ignore_ascii_case bs w.0.now) _ _ c.find.result c.find.ensures.ran (YieldsList-from_slice c.args.words.now cc) (λ x b q k. search (rules, tests)) in
    let m : c.map.result ≡ option_map (λ w. w.1) (option_map (λ w. w.now) c.find.result) = search rules in
    m ∙ ap (option_map (λ w. w.1)) f ∙ spelled_behind c.args.words.now bs

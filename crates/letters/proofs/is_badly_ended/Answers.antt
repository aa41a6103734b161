use Rattle.std.proofs.Common.{not, rules, tests}
use Rattle.std.proofs.lemmas.Iterator.{YieldsList-from_slice}
use Rattle.std.proofs.lemmas.Iterator.Search.{find_from_yields_List}
use Rattle.classes.specs.Classes.{from_to}
use Rattle.letters.proofs.Judging.{badly_found}
use Rattle.letters.proofs.is_badly_ended.Goals as goal

pub returns : goal.returns
returns c =
    let found = find_from_yields_List (λ b. not (from_to 97 122 b)) _ _ c.find.result c.find.ensures.ran (YieldsList-from_slice c.args.bytes.now cc) (λ x b q k. search (rules, tests)) in
    badly_found c.args.kind c.args.bytes.now c.find.result c.is_some_and.result found (search rules)

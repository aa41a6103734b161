use Rattle.std.proofs.Common.{sym, ◌∙◌, rules}
use Rattle.list.specs.Held.{items}
use Rattle.text.proofs.Found.{missing, stretched}
use Rattle.text.proofs.shelves.FileShelf.stretch.Goals as goal

pub returns-in_err-place : goal.returns-in_err-place
returns-in_err-place g c = search (rules, missing)

pub returns : goal.returns
returns g c =
    let there = sym c.in_ok-place.was ∙ c.get.ensures in
    stretched c.args.self.now.file.now (items c.args.self.now.places.now) c.args.k c.in_ok-place.place there c.get-2.result c.get-2.ensures.lookup.0

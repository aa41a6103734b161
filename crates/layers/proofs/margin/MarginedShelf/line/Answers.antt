-- What the slice holds after a row of the margin and after a row beside it, and why the shelf below shows its line there.
use Rattle.std.proofs.Common.{◌≡◌, ℕ, ◌+◌, ◌-◌, ◌*◌, ◌<◌, min, Ok, ◌∙◌, arith, rules}
use Rattle.std.proofs.lemmas.List.{places}
use Rattle.std.proofs.lemmas.Bool.Decides.{nat_tests}
use Rattle.shelf.specs.Shelves.{Meaning}
use Rattle.shelf.specs.Answers.{line_answer}
use Rattle.shelf.specs.Margins.{margined}
use Rattle.shelf.proofs.Margins.{outer_line, middle_line}
use Rattle.layers.specs.Margin.{inner_answer}
use Rattle.layers.proofs.margin.MarginedShelf.line.Goals as goal

pub returns-then-r-n-clause-after : goal.returns-then-r-n-clause-after
returns-then-r-n-clause-after g c = search (rules, outer_line)

-- a line of the content is not refused inside the margin
taken : (s : ℕ) (m : Meaning) (k w v r h n : ℕ) → Ok h ≡ inner_answer s m k w → v ≡ w - 2 * s → r < h → n ≡ v → line_answer m k v r n ≡ Ok tt
taken s m k w v r h n inner narrow low long = rw narrow (grind (arith, nat_tests))

-- nor is the line of the whole
whole : (corner flat side s : ℕ) (m : Meaning) (k w r h n : ℕ) → Ok h ≡ inner_answer s m k w → r < min (h + 2 * s) 65535 → n ≡ w → Ok tt ≡ line_answer (margined corner flat side s m) k w r n
whole corner flat side s m k w r h n inner low long = grind (arith, nat_tests)

pub returns-clause-answer : goal.returns-clause-answer
returns-clause-answer g c =
    c.line.ensures.answer ∙
    taken c.args.self.now.size (g.S.Shelf.meaning c.args.self.now.below) c.args.k c.args.w _ _ c.in_ok-h.h _ c.in_ok-h.ensures (search rules) (omega arith) (search (rules, places)) ∙
    rw (g.M.Style.shows c.args.self.now.size (g.S.Shelf.meaning c.args.self.now.below)) (whole g.M.Style.CORNER g.M.Style.FLAT g.M.Style.SIDE c.args.self.now.size (g.S.Shelf.meaning c.args.self.now.below) c.args.k c.args.w c.args.r c.in_ok-h.h _ c.in_ok-h.ensures (search rules) (omega arith))

pub returns-clause-after : goal.returns-clause-after
returns-clause-after g c =
    let shown : c.line.result ≡ Ok tt = c.line.ensures.answer ∙ taken c.args.self.now.size (g.S.Shelf.meaning c.args.self.now.below) c.args.k c.args.w _ _ c.in_ok-h.h _ c.in_ok-h.ensures (search rules) (omega arith) (search (rules, places)) in
    rw (shown, g.M.Style.shows c.args.self.now.size (g.S.Shelf.meaning c.args.self.now.below)) (search (rules, middle_line))

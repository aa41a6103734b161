-- What an answer of a shelf tells, and when a line is shown.
use Rattle.std.proofs.Common.{◌≡◌, ℕ, ◌<◌, Ok, arith}
use Rattle.std.proofs.lemmas.Bool.Decides.{nat_tests}
use Rattle.shelf.specs.Shelves.{Meaning, Fitting}
use Rattle.shelf.specs.Answers.{height_answer, line_answer}

pub fitting_from_height : (m : Meaning) (k w h : ℕ) → Ok h ≡ height_answer m k w → Fitting m k w
fitting_from_height m k w h e = record { there = grind (arith, nat_tests); enough = grind (arith, nat_tests); small = grind (arith, nat_tests) }

pub height_from_height : (m : Meaning) (k w h : ℕ) → Ok h ≡ height_answer m k w → h ≡ m.height k w
height_from_height m k w h e = grind (arith, nat_tests)

pub line_shown : (m : Meaning) (k w r n : ℕ) → Fitting m k w → r < m.height k w → n ≡ w → Ok tt ≡ line_answer m k w r n
line_shown m k w r n f below long = grind (arith, nat_tests)

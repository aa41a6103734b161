-- Where a line begins, found while the lines are counted.
use Rattle.std.proofs.Common.{◌≡◌, ℕ, ◌+◌, ◌-◌, ◌<◌, ◌≤◌, List, [], ◌∷◌, length, get_or, drop, sym, ap, ◌∙◌, arith}
use Rattle.std.proofs.lemmas.List.{get_or-drop}
use Rattle.typeset.specs.Lines.{onto, first}
use Rattle.typeset.proofs.Onto.{drop_onto, drop_next}

-- of the lines `all`, `high` have begun, and `left` is what is still to come, the end of the last of them first.
-- `from` tells the lines that begin at a byte; line r begins at the byte `start` once it has begun
pub record Passing {X : Type 0} (all left : List (List X)) (from : ℕ → List (List X)) (r high start : ℕ) : Type 0 where
  pub some : 1 ≤ high
  pub ahead : high ≤ r → drop (r + 1 - high) left ≡ drop r all
  pub begun : r < high → from start ≡ drop r all

module _ {X : Type 0} (all : List (List X)) (from : ℕ → List (List X)) (r : ℕ) where
  -- more of the line that has begun
  pub passing_onto : (left more : List (List X)) (v : X) (high start : ℕ) → left ≡ onto v more → 0 < length more → Passing all left from r high start → Passing all more from r high start
  passing_onto left more v high start e some p = record {
    some = p.some;
    ahead = λ h. sym (drop_onto (r + 1 - high) v more (omega arith) some) ∙ ap (drop (r + 1 - high)) (sym e) ∙ p.ahead h;
    begun = p.begun;
  }

  -- the line ends, and the next one begins at the byte at
  pub passing_other : (left more : List (List X)) (l : List X) (high start : ℕ) → left ≡ l ∷ more → (high ≡ r → ⊥) → Passing all left from r high start → Passing all more from r (high + 1) start
  passing_other left more l high start e apart p = record {
    some = omega arith;
    ahead = λ h. ap (λ n. drop n more) (omega arith) ∙ sym (drop_next (r + 1 - high) l more (omega arith)) ∙ ap (drop (r + 1 - high)) (sym e) ∙ p.ahead (omega arith);
    begun = λ h. p.begun (omega arith);
  }

  pub passing_here : (left more : List (List X)) (l : List X) (high start at : ℕ) → left ≡ l ∷ more → high ≡ r → from at ≡ more → Passing all left from r high start → Passing all more from r (high + 1) at
  passing_here left more l high start at e here f p = record {
    some = omega arith;
    ahead = λ h. absurd (omega arith);
    begun = λ h. let z : 0 ≡ r + 1 - high - 1 = omega arith in f ∙ ap (λ n. drop n more) z ∙ sym (drop_next (r + 1 - high) l more (omega arith)) ∙ ap (drop (r + 1 - high)) (sym e) ∙ p.ahead (omega arith);
  }

-- the first of the lines from r on is line r
pub first_drop : {X : Type 0} (r : ℕ) (all ls : List (List X)) → ls ≡ drop r all → first ls ≡ get_or all r []
first_drop r all ls e = ap first e ∙ get_or-drop r all 0 [] ∙ ap (λ k. get_or all k []) (omega arith)

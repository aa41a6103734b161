-- Something put at the front of the first line.
use Rattle.std.proofs.Common.{◌≡◌, ℕ, zero, suc, ◌-◌, ◌<◌, List, [], ◌∷◌, length, drop, refl, ap, arith}
use Rattle.typeset.specs.Lines.{onto, first}

module _ {X : Type 0} where
  pub onto_some : (v : X) (ls : List (List X)) → 0 < length (onto v ls)
  onto_some v [] = omega arith
  onto_some v (l ∷ ls) = omega arith

  pub length_onto : (v : X) (ls : List (List X)) → 0 < length ls → length (onto v ls) ≡ length ls
  length_onto v [] h = absurd (omega arith)
  length_onto v (l ∷ ls) h = refl

  pub first_onto : (v : X) (ls : List (List X)) → first (onto v ls) ≡ v ∷ first ls
  first_onto v [] = refl
  first_onto v (l ∷ ls) = refl

  -- past the first line it does not matter what stands in front of it
  pub drop_onto : (k : ℕ) (v : X) (ls : List (List X)) → 0 < k → 0 < length ls → drop k (onto v ls) ≡ drop k ls
  drop_onto zero v ls h l = absurd (omega arith)
  drop_onto (suc k) v [] h l = absurd (omega arith)
  drop_onto (suc k) v (x ∷ ls) h l = refl

  pub drop_next : (k : ℕ) (l : List X) (ls : List (List X)) → 0 < k → drop k (l ∷ ls) ≡ drop (k - 1) ls
  drop_next zero l ls h = absurd (omega arith)
  drop_next (suc k) l ls h = ap (λ j. drop j ls) (omega arith)

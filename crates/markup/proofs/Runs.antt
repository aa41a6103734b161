-- How far a run of bytes goes.
use Rattle.std.proofs.Common.{◌≡◌, ℕ, suc, ◌+◌, ◌≤◌, Bool, true, false, not, cond, List, [], ◌∷◌, ◌++◌, length, take, Some, None, ltb, refl, ap, ◌∙◌, arith}
use Rattle.std.specs.List.{position, position_or_len}
use Rattle.std.specs.Option.{unwrap_or}
use Rattle.std.proofs.lemmas.Bool.{cond_both, ltb-false, cond-true, cond-false}
use Rattle.markup.specs.Form.{Only}
use Rattle.markup.specs.Spans.{front}

-- the bytes do not go on with one that passes
abbrev pub Stops : (ℕ → Bool) → List ℕ → Type 0
Stops p [] = Unit {0}
Stops p (b ∷ bs) = p b ≡ false

module _ (p : ℕ → Bool) where
  pub front_le : (xs : List ℕ) → front p xs ≤ length xs
  front_le [] = omega arith
  front_le (x ∷ xs) = cond_both (p x) (suc (front p xs)) 0 (λ n. n ≤ suc (length xs)) (λ _. omega (arith, front_le xs)) (λ _. omega arith)

  pub front_only : (xs : List ℕ) → Only p (take (front p xs) xs)
  front_only [] = tt
  front_only (x ∷ xs) = cond_both (p x) (suc (front p xs)) 0 (λ n. Only p (take n (x ∷ xs))) (λ e. (e, front_only xs)) (λ _. tt)

  pub front_stops : (xs ys : List ℕ) → Only p xs → Stops p ys → front p (xs ++ ys) ≡ length xs
  front_stops [] [] o s = refl
  front_stops [] (y ∷ ys) o s = cond-false (p y) (suc (front p ys)) 0 s
  front_stops (x ∷ xs) ys o s = cond-true (p x) (suc (front p (xs ++ ys))) 0 o.0 ∙ ap suc (front_stops xs ys o.1 s)

  not_not : (xs : List ℕ) → position_or_len (λ b. not (p b)) xs ≡ front p xs
  not_not [] = refl
  not_not (x ∷ xs) =
      elim (p x) as (λ t. cond (not (not t)) (1 + position_or_len (λ b. not (p b)) xs) 0 ≡ cond t (suc (front p xs)) 0) [ true ↦ omega (arith, not_not xs) | false ↦ refl ]

  -- it goes up to the first byte that does not pass
  pub first_not : (xs : List ℕ) → unwrap_or (position (λ b. not (p b)) xs) (length xs) ≡ front p xs
  first_not xs =
      let n = position_or_len (λ b. not (p b)) xs in
      cond_both (ltb n (length xs)) (Some n) None (λ o. unwrap_or o (length xs) ≡ front p xs)
      (λ _. not_not xs)
      (λ e. omega (arith, ltb-false n (length xs) e, not_not xs, front_le xs))

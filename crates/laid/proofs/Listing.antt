-- Items of lists by number, and what holds of the items that pass a test.
use Rattle.std.proofs.Common.{◌≡◌, ℕ, zero, suc, ◌<◌, Bool, true, List, [], ◌∷◌, map, length, Some, filter, refl, subst, arith}
use Rattle.std.specs.List.{slice_get, AllByRecursion}
use Rattle.std.proofs.lemmas.Bool.{cond_both, both_ways}

module _ {X : Type 0} where
  pub nth_below : (xs : List X) (k : ℕ) (x : X) → slice_get xs k ≡ Some x → k < length xs
  nth_below [] k x e = let z : ◌≡◌ {A = ℕ} 0 1 = cc in omega arith
  nth_below (y ∷ xs) zero x e = omega arith
  nth_below (y ∷ xs) (suc k) x e = omega (arith, nth_below xs k x e)

  pub nth_some : (xs : List X) (k : ℕ) → k < length xs → (x : X) × (slice_get xs k ≡ Some x)
  nth_some [] k l = absurd (omega arith)
  nth_some (x ∷ xs) zero l = (x, refl)
  nth_some (x ∷ xs) (suc k) l = nth_some xs k (omega arith)

  pub all_nth : (P : X → Type 0) (xs : List X) → AllByRecursion P xs → (k : ℕ) (x : X) → slice_get xs k ≡ Some x → P x
  all_nth P [] a k x e = let z : ◌≡◌ {A = ℕ} 0 1 = cc in absurd (omega arith)
  all_nth P (y ∷ xs) a zero x e = let q : y ≡ x = cc in subst P q a.0
  all_nth P (y ∷ xs) a (suc k) x e = all_nth P xs a.1 k x e

  module _ (p : X → Bool) (P : X → Type 0) where
    -- of every item that passes, so of each that is kept
    pub all_kept : (xs : List X) → ((k : ℕ) (x : X) → slice_get xs k ≡ Some x → p x ≡ true → P x) → AllByRecursion P (filter p xs)
    all_kept [] h = tt
    all_kept (x ∷ xs) h =
        let rest = all_kept xs (λ k. h (suc k)) in
        cond_both (p x) _ _ (AllByRecursion P) (λ e. (h 0 x refl e, rest)) (λ e. rest)

    -- and back
    pub kept_all : (xs : List X) → AllByRecursion P (filter p xs) → AllByRecursion (λ x. p x ≡ true → P x) xs
    kept_all [] a = tt
    kept_all (x ∷ xs) a =
        cond_both (p x) _ _ (λ zs. AllByRecursion P zs → (p x ≡ true → P x) × AllByRecursion (λ y. p y ≡ true → P y) xs)
        (λ e b. (λ _. b.0, kept_all xs b.1))
        (λ e b. (λ t. absurd (both_ways (p x) e t), kept_all xs b)) a

pub all_mapped : {X Y : Type 0} (P : Y → Type 0) (f : X → Y) (xs : List X) → AllByRecursion P (map f xs) → AllByRecursion (λ x. P (f x)) xs
all_mapped P f [] a = tt
all_mapped P f (x ∷ xs) a = (a.0, all_mapped P f xs a.1)

-- Items of lists by number, after one more item and after a change of one.
use Rattle.std.proofs.Common.{◌≡◌, ℕ, zero, suc, ◌<◌, ◌⊎◌, List, [], ◌∷◌, ◌++◌, length, take, set, Some, refl, ap, inl, inr, arith}
use Rattle.std.specs.List.{slice_get}

module _ {A : Type 0} where
  pub nth_same : (xs : List A) (k : ℕ) (a b : A) → slice_get xs k ≡ Some a → slice_get xs k ≡ Some b → a ≡ b
  nth_same xs k a b p q = cc

  pub nth_push : (xs : List A) (x : A) (k : ℕ) (b : A) → slice_get (xs ++ x ∷ []) k ≡ Some b → (slice_get xs k ≡ Some b) ⊎ ((k ≡ length xs) × (x ≡ b))
  nth_push [] x zero b e = let q : x ≡ b = cc in inr (refl, q)
  nth_push [] x (suc k) b e = inl e
  nth_push (y ∷ xs) x zero b e = inl e
  nth_push (y ∷ xs) x (suc k) b e = elim (nth_push xs x k b e) [ inl h ↦ inl h | inr h ↦ inr (ap suc h.0, h.1) ]

  pub nth_old : (xs : List A) (x : A) (k : ℕ) (b : A) → slice_get xs k ≡ Some b → slice_get (xs ++ x ∷ []) k ≡ Some b
  nth_old [] x k b e = let z : ◌≡◌ {A = ℕ} 0 1 = cc in absurd (omega arith)
  nth_old (y ∷ xs) x zero b e = e
  nth_old (y ∷ xs) x (suc k) b e = nth_old xs x k b e

  pub nth_last : (xs : List A) (x : A) → slice_get (xs ++ x ∷ []) (length xs) ≡ Some x
  nth_last [] x = refl
  nth_last (y ∷ xs) x = nth_last xs x

  pub nth_set : (xs : List A) (i : ℕ) (x : A) (k : ℕ) (b : A) → slice_get (set xs i x) k ≡ Some b → ((k ≡ i) × (x ≡ b)) ⊎ ((k ≡ i → ⊥) × (slice_get xs k ≡ Some b))
  nth_set [] i x k b e = let z : ◌≡◌ {A = ℕ} 0 1 = cc in absurd (omega arith)
  nth_set (y ∷ xs) zero x zero b e = let q : x ≡ b = cc in inl (refl, q)
  nth_set (y ∷ xs) zero x (suc k) b e = inr (λ h. omega arith, e)
  nth_set (y ∷ xs) (suc i) x zero b e = inr (λ h. omega arith, e)
  nth_set (y ∷ xs) (suc i) x (suc k) b e = elim (nth_set xs i x k b e) [ inl h ↦ inl (ap suc h.0, h.1) | inr h ↦ inr (λ q. h.0 (omega arith), h.1) ]

  -- an item among the first n
  pub nth_take : (n : ℕ) (xs : List A) (k : ℕ) (b : A) → k < n → slice_get xs k ≡ Some b → slice_get (take n xs) k ≡ Some b
  nth_take zero xs k b h e = absurd (omega arith)
  nth_take (suc n) [] k b h e = e
  nth_take (suc n) (x ∷ xs) zero b h e = e
  nth_take (suc n) (x ∷ xs) (suc k) b h e = nth_take n xs k b (omega arith) e

  pub nth_set_same : (xs : List A) (i : ℕ) (a b : A) → slice_get xs i ≡ Some b → slice_get (set xs i a) i ≡ Some a
  nth_set_same [] i a b e = let z : ◌≡◌ {A = ℕ} 0 1 = cc in absurd (omega arith)
  nth_set_same (x ∷ xs) zero a b e = refl
  nth_set_same (x ∷ xs) (suc i) a b e = nth_set_same xs i a b e

  pub nth_set_other : (xs : List A) (t : ℕ) (a : A) (i : ℕ) → (i ≡ t → ⊥) → slice_get (set xs t a) i ≡ slice_get xs i
  nth_set_other [] t a i h = refl
  nth_set_other (x ∷ xs) zero a zero h = absurd (h refl)
  nth_set_other (x ∷ xs) zero a (suc i) h = refl
  nth_set_other (x ∷ xs) (suc t) a zero h = refl
  nth_set_other (x ∷ xs) (suc t) a (suc i) h = nth_set_other xs t a i (λ e. h (ap suc e))

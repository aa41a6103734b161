-- Passes over a list: what each member is in the end.
use Rattle.std.proofs.Common.{◌≡◌, ℕ, zero, suc, ◌+◌, ◌<◌, ◌≤◌, List, [], ◌∷◌, map, length, Some, sym, refl, ap, ◌∙◌, subst, inl, inr, arith}
use Rattle.std.specs.List.{slice_get}
use Rattle.std.proofs.lemmas.Bool.{cases_eq}
use Rattle.laid.specs.Layout.{alter, down, up}

module _ {X : Type 0} where
  pub nth_alter : (xs : List X) (i : ℕ) (f : X → X) (x : X) → slice_get xs i ≡ Some x → slice_get (alter i f xs) i ≡ Some (f x)
  unfolding alter
  nth_alter [] i f x e = let z : ◌≡◌ {A = ℕ} 0 1 = cc in absurd (omega arith)
  nth_alter (y ∷ xs) zero f x e = let q : y ≡ x = cc in ap (λ z. Some (f z)) q
  nth_alter (y ∷ xs) (suc i) f x e = nth_alter xs i f x e

  pub nth_unaltered : (xs : List X) (i : ℕ) (f : X → X) (k : ℕ) → (k ≡ i → ⊥) → slice_get (alter i f xs) k ≡ slice_get xs k
  unfolding alter
  nth_unaltered [] i f k n = refl
  nth_unaltered (y ∷ xs) zero f zero n = absurd (n refl)
  nth_unaltered (y ∷ xs) zero f (suc k) n = refl
  nth_unaltered (y ∷ xs) (suc i) f zero n = refl
  nth_unaltered (y ∷ xs) (suc i) f (suc k) n = nth_unaltered xs i f k (λ e. n (ap suc e))

  length_alter : (xs : List X) (i : ℕ) (f : X → X) → length (alter i f xs) ≡ length xs
  unfolding alter
  length_alter [] i f = refl
  length_alter (x ∷ xs) zero f = refl
  length_alter (x ∷ xs) (suc i) f = ap suc (length_alter xs i f)

  -- what f leaves of each member stays
  map_alter : {Y : Type 0} (h : X → Y) (f : X → X) → ((x : X) → h (f x) ≡ h x) → (xs : List X) (i : ℕ) → map h (alter i f xs) ≡ map h xs
  unfolding alter
  map_alter h f k [] i = refl
  map_alter h f k (x ∷ xs) zero = ap (λ z. z ∷ map h xs) (k x)
  map_alter h f k (x ∷ xs) (suc i) = ap (λ zs. h x ∷ zs) (map_alter h f k xs i)

  module _ (f : List X → ℕ → X → X) where
    pub length_down : (n : ℕ) (xs : List X) → length (down f n xs) ≡ length xs
    unfolding down
    length_down zero xs = refl
    length_down (suc n) xs = length_down n (alter n (f xs n) xs) ∙ length_alter xs n (f xs n)

    pub length_up : (n i : ℕ) (xs : List X) → length (up f n i xs) ≡ length xs
    unfolding up
    length_up zero i xs = refl
    length_up (suc n) i xs = length_up n (suc i) (alter i (f xs i) xs) ∙ length_alter xs i (f xs i)

    pub map_up : {Y : Type 0} (h : X → Y) → ((xs : List X) (i : ℕ) (x : X) → h (f xs i x) ≡ h x) → (n i : ℕ) (xs : List X) → map h (up f n i xs) ≡ map h xs
    unfolding up
    map_up h k zero i xs = refl
    map_up h k (suc n) i xs = map_up h k n (suc i) (alter i (f xs i) xs) ∙ map_alter h (f xs i) (k xs i) xs i

    pub down_keeps : (n : ℕ) (xs : List X) (u : ℕ) → n ≤ u → slice_get (down f n xs) u ≡ slice_get xs u
    unfolding down
    down_keeps zero xs u l = refl
    down_keeps (suc n) xs u l = down_keeps n (alter n (f xs n) xs) u (omega arith) ∙ nth_unaltered xs n (f xs n) u (λ e. omega arith)

    pub up_keeps : (n i : ℕ) (xs : List X) (u : ℕ) → u < i → slice_get (up f n i xs) u ≡ slice_get xs u
    unfolding up
    up_keeps zero i xs u l = refl
    up_keeps (suc n) i xs u l = up_keeps n (suc i) (alter i (f xs i) xs) u (omega arith) ∙ nth_unaltered xs i (f xs i) u (λ e. omega arith)

    -- in the end each member is what f makes of it, seeing the end
    module _ (start : List X) where
      -- f sees only what comes after
      abbrev pub SeesAfter : Type 0
      SeesAfter = (xs ys : List X) (t : ℕ) (x : X) → slice_get start t ≡ Some x → ((u : ℕ) → t < u → slice_get xs u ≡ slice_get ys u) → f xs t x ≡ f ys t x

      -- f sees only what comes before
      abbrev pub SeesBefore : Type 0
      SeesBefore = (xs ys : List X) (t : ℕ) (x : X) → slice_get start t ≡ Some x → ((u : ℕ) → u < t → slice_get xs u ≡ slice_get ys u) → f xs t x ≡ f ys t x

      pub down_ends : SeesAfter → (n : ℕ) (xs : List X) → ((u : ℕ) → u < n → slice_get xs u ≡ slice_get start u) →
          (t : ℕ) (x : X) → t < n → slice_get start t ≡ Some x → slice_get (down f n xs) t ≡ Some (f (down f n xs) t x)
      unfolding down
      down_ends s zero xs same t x l e = absurd (omega arith)
      down_ends s (suc n) xs same t x l e =
          let ys : List X = alter n (f xs n) xs in
          let zs : List X = down f n ys in
          elim (cases_eq t n) [
            | inl q ↦
                let en : slice_get start n ≡ Some x = ap (slice_get start) (sym q) ∙ e in
                let here : slice_get zs n ≡ Some (f xs n x) = down_keeps n ys n (omega arith) ∙ nth_alter xs n (f xs n) x (same n (omega arith) ∙ en) in
                let sees : f xs n x ≡ f zs n x =
                s xs zs n x en (λ u lu. sym (down_keeps n ys u (omega arith) ∙ nth_unaltered xs n (f xs n) u (λ z. omega arith))) in
                let both : slice_get zs n ≡ Some (f zs n x) = here ∙ ap Some sees in
                subst (λ z. slice_get zs z ≡ Some (f zs z x)) (sym q) both
            | inr d ↦ down_ends s n ys (λ u lu. nth_unaltered xs n (f xs n) u (λ z. omega arith) ∙ same u (omega arith)) t x (omega arith) e
          ]

      pub up_ends : SeesBefore → (n i : ℕ) (xs : List X) → ((u : ℕ) → i ≤ u → slice_get xs u ≡ slice_get start u) →
          (t : ℕ) (x : X) → i ≤ t → t < i + n → slice_get start t ≡ Some x → slice_get (up f n i xs) t ≡ Some (f (up f n i xs) t x)
      unfolding up
      up_ends s zero i xs same t x lo hi e = absurd (omega arith)
      up_ends s (suc n) i xs same t x lo hi e =
          let ys : List X = alter i (f xs i) xs in
          let zs : List X = up f n (suc i) ys in
          elim (cases_eq t i) [
            | inl q ↦
                let ei : slice_get start i ≡ Some x = ap (slice_get start) (sym q) ∙ e in
                let here : slice_get zs i ≡ Some (f xs i x) = up_keeps n (suc i) ys i (omega arith) ∙ nth_alter xs i (f xs i) x (same i (omega arith) ∙ ei) in
                let sees : f xs i x ≡ f zs i x =
                s xs zs i x ei (λ u lu. sym (up_keeps n (suc i) ys u (omega arith) ∙ nth_unaltered xs i (f xs i) u (λ z. omega arith))) in
                let both : slice_get zs i ≡ Some (f zs i x) = here ∙ ap Some sees in
                subst (λ z. slice_get zs z ≡ Some (f zs z x)) (sym q) both
            | inr d ↦ up_ends s n (suc i) ys (λ u lu. nth_unaltered xs i (f xs i) u (λ z. omega arith) ∙ same u (omega arith)) t x (omega arith) (omega arith) e
          ]

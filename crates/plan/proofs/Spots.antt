-- Free columns one after the other, and what a span that was found tells.
use Rattle.std.proofs.Common.{◌≡◌, ℕ, zero, suc, ◌+◌, ◌-◌, ◌<◌, ◌≤◌, Bool, true, false, cond, ◌&&◌, leb, List, [], ◌∷◌, length, take, drop, get_or, ltb, Some, None, sym, refl, ap, ◌∙◌, inl, inr, arith, length-take-le, get_or-take, get_or-drop}
use Rattle.std.proofs.lemmas.Option.{none-some}
use Rattle.std.proofs.lemmas.Bool.{cond_both, cond-true, cond-false, cases_Bool, cases_eq, and_parts, leb-true, le-leb, lt-leb, ltb-false}
use Rattle.std.specs.List.{list_all, position, position_or_len, slice_range}
use Rattle.std.specs.Bool.{then_some}
use Rattle.plan.specs.Taken.{lowest, clear, spot}

some_same : (i j : ℕ) → Some i ≡ Some j → i ≡ j
some_same i j e = cc

then_cond : (b : Bool) (j : ℕ) → then_some b j ≡ cond b (Some j) None
then_cond true j = refl
then_cond false j = refl

-- what the code reads of a list of columns
module _ (p : ℕ → Bool) where
  at_first : (y : ℕ) (ys : List ℕ) → p y ≡ true → position_or_len p (y ∷ ys) ≡ 0
  at_first y ys h = simp h

  past_first : (y : ℕ) (ys : List ℕ) → p y ≡ false → position_or_len p (y ∷ ys) ≡ 1 + position_or_len p ys
  past_first y ys h = simp h

  lowest_is : (free : ℕ → Bool) (j : ℕ) (ys : List ℕ) → ((i : ℕ) → i < length ys → free (j + i) ≡ p (get_or ys i 0)) → lowest free j (length ys) ≡ j + position_or_len p ys
  lowest_is free j [] e = omega arith
  lowest_is free j (y ∷ ys) e =
      let first : free j ≡ p y = ap free (omega arith) ∙ e 0 (omega arith) in
      elim (cases_Bool (p y)) [
        | inl h ↦ cond-true (free j) _ _ (first ∙ h) ∙ omega (arith, at_first y ys h)
        | inr h ↦
            let rest = lowest_is free (suc j) ys (λ i k. ap free (omega arith) ∙ e (suc i) (omega arith)) in
            cond-false (free j) _ _ (first ∙ h) ∙ omega (arith, rest, past_first y ys h)
      ]

  clear_is : (free : ℕ → Bool) (j : ℕ) (ys : List ℕ) → ((i : ℕ) → i < length ys → free (j + i) ≡ p (get_or ys i 0)) → clear free j (length ys) ≡ list_all p ys
  clear_is free j [] e = refl
  clear_is free j (y ∷ ys) e =
      let first : free j ≡ p y = ap free (omega arith) ∙ e 0 (omega arith) in
      ap (λ b. b && clear free (suc j) (length ys)) first ∙
      ap (λ b. p y && b) (clear_is free (suc j) ys (λ i k. ap free (omega arith) ∙ e (suc i) (omega arith)))

  position_none : (ys : List ℕ) → position p ys ≡ None → length ys ≤ position_or_len p ys
  position_none ys e =
      let n = position_or_len p ys in
      elim (cases_Bool (ltb n (length ys))) [
        | inl h ↦ absurd (none-some n (sym e ∙ cond-true (ltb n (length ys)) (Some n) None h))
        | inr h ↦ ltb-false n (length ys) h
      ]

  position_some : (ys : List ℕ) (j : ℕ) → position p ys ≡ Some j → position_or_len p ys ≡ j
  position_some ys j e =
      let n = position_or_len p ys in
      elim (cases_Bool (ltb n (length ys))) [
        | inl h ↦ some_same n j (sym (cond-true (ltb n (length ys)) (Some n) None h) ∙ e)
        | inr h ↦ absurd (none-some j (sym (cond-false (ltb n (length ys)) (Some n) None h) ∙ e))
      ]

-- where a span goes, told by the first open column and by those that it covers
module _ (xs : List ℕ) (row count across : ℕ) (there : count ≤ length xs) (some : 1 ≤ across) where
  abbrev free : ℕ → Bool
  free j = leb (get_or xs j 0) row

  abbrev is_open : ℕ → Bool
  is_open until = leb until row

  low : lowest free 0 count ≡ position_or_len is_open (take count xs)
  low =
      let n : length (take count xs) ≡ count = length-take-le count xs there in
      let first = lowest_is is_open free 0 (take count xs) (λ i h. ap free (omega arith) ∙ ap is_open (sym (get_or-take count xs i 0 (omega (arith, n))))) in
      ap (lowest free 0) (sym n) ∙ omega (arith, first)

  spot_past : (low_at : ℕ) → lowest free 0 count ≡ low_at → count < low_at + across → spot free count across ≡ None
  spot_past low_at e h =
      let past : leb (lowest free 0 count + across) count ≡ false = lt-leb _ _ (omega arith) in
      cond-false (leb (lowest free 0 count + across) count && clear free (lowest free 0 count) across) (Some (lowest free 0 count)) None
      (ap (λ b. b && clear free (lowest free 0 count) across) past)

  pub spot_none : position is_open (take count xs) ≡ None → None ≡ spot free count across
  spot_none e = sym (spot_past _ low (omega (arith, position_none is_open (take count xs) e, length-take-le count xs there)))

  pub spot_short : (j : ℕ) → position is_open (take count xs) ≡ Some j → count < j + across → None ≡ spot free count across
  spot_short j e h = sym (spot_past j (low ∙ position_some is_open (take count xs) j e) h)

  pub spot_at : (j : ℕ) (cs : List ℕ) → position is_open (take count xs) ≡ Some j → j + across ≤ count → cs ≡ slice_range (take count xs) j (j + across) → length cs ≡ across → then_some (list_all is_open cs) j ≡ spot free count across
  spot_at j cs e h is n =
      let at : lowest free 0 count ≡ j = low ∙ position_some is_open (take count xs) j e in
      let cleared : clear free j across ≡ list_all is_open cs =
      ap (clear free j) (sym n) ∙ clear_is is_open free j cs (λ i k. sym (ap (λ ys. is_open (get_or ys i 0)) is ∙ ap is_open (covered i (omega (arith, n))))) in
      let fits : leb (j + across) count ≡ true = le-leb _ _ h in
      then_cond (list_all is_open cs) j ∙
      sym
      (ap (λ k. cond (leb (k + across) count && clear free k across) (Some k) None) at ∙
      ap (λ b. cond (b && clear free j across) (Some j) None) fits ∙
      ap (λ b. cond b (Some j) None) cleared)
    where
      covered : (i : ℕ) → i < across → get_or (slice_range (take count xs) j (j + across)) i 0 ≡ get_or xs (j + i) 0
      covered i k =
          get_or-take (j + across - j) (drop j (take count xs)) i 0 (omega arith) ∙
          get_or-drop j (take count xs) i 0 ∙
          get_or-take count xs (j + i) 0 (omega arith)

module _ (free : ℕ → Bool) where
  lowest_from : (j n : ℕ) → j ≤ lowest free j n
  lowest_from j zero = omega arith
  lowest_from j (suc n) = cond_both (free j) _ _ (λ k. j ≤ k) (λ _. omega arith) (λ _. omega (arith, lowest_from (suc j) n))

  -- all columns below the lowest free one are taken
  lowest_taken : (j n i : ℕ) → j ≤ i → i < lowest free j n → free i ≡ false
  lowest_taken j zero i a b = absurd (omega arith)
  lowest_taken j (suc n) i a b =
      elim (cases_Bool (free j)) [
        | inl e ↦ absurd (omega (arith, cond-true (free j) j (lowest free (suc j) n) e))
        | inr e ↦ elim (cases_eq i j) [
          | inl q ↦ ap free q ∙ e
          | inr q ↦ lowest_taken (suc j) n i (omega arith) (omega (arith, cond-false (free j) j (lowest free (suc j) n) e))
        ]
      ]

  clear_each : (j n i : ℕ) → clear free j n ≡ true → j ≤ i → i < j + n → free i ≡ true
  clear_each j zero i e a b = absurd (omega arith)
  clear_each j (suc n) i e a b =
      let p = and_parts (free j) (clear free (suc j) n) e in
      elim (cases_eq i j) [ inl q ↦ ap free q ∙ p.0 | inr q ↦ clear_each (suc j) n i p.1 (omega arith) (omega arith) ]

  -- where a span was found
  pub record Found (count across j : ℕ) : Type 0 where
    pub within : j + across ≤ count
    pub clear_is : (i : ℕ) → j ≤ i → i < j + across → free i ≡ true
    pub lowest_is : (i : ℕ) → i < j → free i ≡ false

  pub spot_found : (count across j : ℕ) → spot free count across ≡ Some j → Found count across j
  spot_found count across j e =
      let low : ℕ = lowest free 0 count in
      elim (cases_Bool (leb (low + across) count && clear free low across)) [
        | inl h ↦
            let p = and_parts (leb (low + across) count) (clear free low across) h in
            let same : low ≡ j = some_same low j (sym (cond-true (leb (low + across) count && clear free low across) (Some low) None h) ∙ e) in
            record {
              within = omega (arith, leb-true (low + across) count p.0);
              clear_is = λ i a b. clear_each low across i p.1 (omega arith) (omega arith);
              lowest_is = λ i a. lowest_taken 0 count i (omega arith) (omega arith);
            }
        | inr h ↦ let z = sym (cond-false (leb (low + across) count && clear free low across) (Some low) None h) ∙ e in absurd (none-some j z)
      ]

-- two tests that agree on all columns find the same
module _ (free free' : ℕ → Bool) where
  lowest_same : (j n : ℕ) → ((i : ℕ) → j ≤ i → i < j + n → free i ≡ free' i) → lowest free j n ≡ lowest free' j n
  lowest_same j zero e = refl
  lowest_same j (suc n) e =
      ap (λ b. cond b j (lowest free (suc j) n)) (e j (omega arith) (omega arith)) ∙
      ap (λ k. cond (free' j) j k) (lowest_same (suc j) n (λ i a b. e i (omega arith) (omega arith)))

  clear_same : (j n : ℕ) → ((i : ℕ) → j ≤ i → i < j + n → free i ≡ free' i) → clear free j n ≡ clear free' j n
  clear_same j zero e = refl
  clear_same j (suc n) e =
      ap (λ b. b && clear free (suc j) n) (e j (omega arith) (omega arith)) ∙
      ap (λ k. free' j && k) (clear_same (suc j) n (λ i a b. e i (omega arith) (omega arith)))

  pub spot_same : (count across : ℕ) → ((i : ℕ) → i < count → free i ≡ free' i) → spot free count across ≡ spot free' count across
  spot_same count across e =
      let low : lowest free 0 count ≡ lowest free' 0 count = lowest_same 0 count (λ i a b. e i (omega arith)) in
      let k : ℕ = lowest free' 0 count in
      let tests : (leb (k + across) count && clear free k across) ≡ (leb (k + across) count && clear free' k across) =
      elim (cases_Bool (leb (k + across) count)) [
        | inl h ↦ let fits = leb-true (k + across) count h in ap (λ b. leb (k + across) count && b) (clear_same k across (λ i a b. e i (omega arith)))
        | inr h ↦ ap (λ b. b && clear free k across) h ∙ ap (λ b. b && clear free' k across) (sym h)
      ] in
      ap (λ i. cond (leb (i + across) count && clear free i across) (Some i) None) low ∙ ap (λ b. cond b (Some k) None) tests

-- A column that no longer span raises has just what its own cells ask, or its fixed width.
use Rattle.std.proofs.Common.{◌≡◌, ℕ, zero, suc, ◌+◌, ◌-◌, ◌<◌, ◌≤◌, max, Bool, true, false, cond, ◌&&◌, eqb, List, [], ◌∷◌, map, length, get_or, take, drop, sym, refl, ap, ◌∙◌, subst, inl, inr, arith, get_or-take}
use native.Mathlib.Nat.{sub_self}
use Rattle.std.specs.List.{AllByRecursion}
use Rattle.std.proofs.lemmas.List.{length-map, length-drop, get_or_append_left, get_or-append_right, get_or-drop, get_or-map, length-take-le}
use Rattle.std.proofs.lemmas.Bool.{both_ways, cond_both, cond-true, cond-false, cases_lt, cases_eq, cases_Bool, eq-eqb, ne_eqb, and_left}
use Rattle.share.specs.Share.{total, upto, parts, brings}
use Rattle.share.proofs.Totals.{upto_suc}
use Rattle.share.proofs.Parts.{parts_length, part_each}
use Rattle.plan.specs.declared.record.Column.{Column}
use Rattle.plan.specs.declared.record.Sizing.{Sizing}
use Rattle.plan.specs.declared.record.Sizing.TheVariants.{Free, Fixed}
use Rattle.plan.specs.Blank.{blank_column}
use Rattle.columns.specs.Wants.{Want}
use Rattle.columns.specs.Columns.{leasts, free, is_free, fixed_at, fixed_of, over, spanned, fresh, raised_to, raise_one, held, need, free_weights, none_free, weight, even_weights, with_parts, more_least, more_greatest, meet_minimum, meet_maximum, raise_span, each_of, spans, pass}
use Rattle.columns.specs.Laws.{Fits, own_minimum, Spares, own_least}
use Rattle.columns.proofs.Grown.{Grown, none, more, grown_trans, grown_length, grown_one, grown_span, grown_held, grown_meet, grown_each_of}
use Rattle.columns.proofs.Wide.{open_grown, fresh_weights}

-- the least of column j
abbrev least_at : List Column → ℕ → ℕ
least_at cs j = (get_or cs j blank_column).least

-- ---- what is done to some members leaves the others

over_before : (f : List Column → List Column) (i k : ℕ) (cs : List Column) (j : ℕ) → j < i → get_or (over f i k cs) j blank_column ≡ get_or cs j blank_column
unfolding over
over_before f zero k cs j h = absurd (omega arith)
over_before f (suc i) k [] j h = refl
over_before f (suc i) k (c ∷ cs) zero h = refl
over_before f (suc i) k (c ∷ cs) (suc j) h = over_before f i k cs j (omega arith)

module _ (f : List Column → List Column) (same : (ys : List Column) → length (f ys) ≡ length ys) where
  over_after : (i k : ℕ) (cs : List Column) (j : ℕ) → i + k ≤ length cs → i + k ≤ j → get_or (over f i k cs) j blank_column ≡ get_or cs j blank_column
  unfolding over
  over_after zero k cs j fits h =
      let l : length (f (take k cs)) ≡ k = same (take k cs) ∙ length-take-le k cs (omega arith) in
      let e : k + (j - k) ≡ j = omega arith in
      get_or-append_right (f (take k cs)) (drop k cs) k j blank_column l (omega arith) ∙ get_or-drop k cs (j - k) blank_column ∙ ap (λ n. get_or cs n blank_column) e
  over_after (suc i) k [] j fits h = absurd (omega arith)
  over_after (suc i) k (c ∷ cs) zero fits h = absurd (omega arith)
  over_after (suc i) k (c ∷ cs) (suc j) fits h = over_after i k cs j (omega arith) (omega arith)

  over_inside : (i k : ℕ) (cs : List Column) (j : ℕ) → i + k ≤ length cs → i ≤ j → j < i + k → get_or (over f i k cs) j blank_column ≡ get_or (f (take k (drop i cs))) (j - i) blank_column
  unfolding over
  over_inside zero k cs j fits low high =
      let l : length (f (take k cs)) ≡ k = same (take k cs) ∙ length-take-le k cs (omega arith) in
      let e : j ≡ j - 0 = omega arith in
      get_or_append_left (f (take k cs)) (drop k cs) blank_column j (omega arith) ∙ ap (λ n. get_or (f (take k cs)) n blank_column) e
  over_inside (suc i) k [] j fits low high = absurd (omega arith)
  over_inside (suc i) k (c ∷ cs) zero fits low high = absurd (omega arith)
  over_inside (suc i) k (c ∷ cs) (suc j) fits low high =
      let e : j - i ≡ suc j - suc i = omega arith in
      over_inside i k cs j (omega arith) (omega arith) (omega arith) ∙ ap (λ n. get_or (f (take k (drop i cs))) n blank_column) e

-- the column at a place of a span
spanned_at : (i k : ℕ) (cs : List Column) (j : ℕ) → i ≤ j → j < i + k → get_or (take k (drop i cs)) (j - i) blank_column ≡ get_or cs j blank_column
spanned_at i k cs j low high =
    let h : j - i < k = omega arith in
    let e : i + (j - i) ≡ j = omega arith in
    get_or-take k (drop i cs) (j - i) blank_column h ∙ get_or-drop i cs (j - i) blank_column ∙ ap (λ n. get_or cs n blank_column) e

-- ---- a fixed column gets no part where another one is free

least_more : (ps : List ℕ) (cs : List Column) (j : ℕ) → length ps ≡ length cs → j < length cs → least_at (with_parts more_least ps cs) j ≡ least_at cs j + get_or ps j 0
unfolding with_parts
least_more [] cs j e h = absurd (omega arith)
least_more (p ∷ ps) [] j e h = absurd (omega arith)
least_more (p ∷ ps) (c ∷ cs) zero e h = refl
least_more (p ∷ ps) (c ∷ cs) (suc j) e h = least_more ps cs j (omega arith) (omega arith)

least_wider : (ps : List ℕ) (cs : List Column) (j : ℕ) → least_at (with_parts more_greatest ps cs) j ≡ least_at cs j
unfolding with_parts
least_wider [] cs j = refl
least_wider (p ∷ ps) [] j = refl
least_wider (p ∷ ps) (c ∷ cs) zero = refl
least_wider (p ∷ ps) (c ∷ cs) (suc j) = least_wider ps cs j

weight_at : (all : Bool) (cs : List Column) (j : ℕ) → j < length cs → get_or (map (weight all) cs) j 0 ≡ weight all (get_or cs j blank_column)
weight_at all [] j h = absurd (omega arith)
weight_at all (c ∷ cs) zero h = refl
weight_at all (c ∷ cs) (suc j) h = weight_at all cs j (omega arith)

part_none : (W : ℕ) (ws : List ℕ) (j : ℕ) → j < length ws → get_or ws j 0 ≡ 0 → get_or (parts W ws) j 0 ≡ 0
part_none W ws j h e =
    let u : upto ws (suc j) ≡ upto ws j = omega (arith, upto_suc ws j h) in
    part_each W ws j h ∙ ap (λ n. brings W (total ws) n - brings W (total ws) (upto ws j)) u ∙ sub_self (brings W (total ws) (upto ws j))

meet_spares : (q : ℕ) (x : Want) (ys : List Column) (j : ℕ) → j < length ys → free (get_or ys j blank_column) ≡ false → 0 < total (free_weights ys) → least_at (meet_maximum q x (meet_minimum q x ys)) j ≡ least_at ys j
unfolding meet_maximum meet_minimum
meet_spares q x ys j h fixed some =
    let N : ℕ = need q x.span x.minimum (leasts ys) in
    let ws : List ℕ = even_weights ys in
    let ps : List ℕ = parts N ws in
    let lw : length ws ≡ length ys = length-map ys (weight (none_free ys)) in
    let lp : length ps ≡ length ys = parts_length N (total ws) 0 ws ∙ lw in
    let none : none_free ys ≡ false = ne_eqb (total (free_weights ys)) 0 (λ z. omega arith) in
    let zero_weight : get_or ws j 0 ≡ 0 = weight_at (none_free ys) ys j h ∙ ap (λ b. weight b (get_or ys j blank_column)) none ∙ cond-false (free (get_or ys j blank_column)) 1 0 fixed in
    least_wider _ (with_parts more_least ps ys) j ∙ least_more ps ys j lp h ∙ omega (arith, part_none N ws j (omega arith) zero_weight)

-- ---- spans that spare the column

free_none : (z : Sizing) → is_free z ≡ true → fixed_at z ≡ 0
free_none Free e = refl
free_none (Fixed f) e = absurd (both_ways false refl e)

own_some : (j : ℕ) (xs : List Want) → 1 ≤ own_minimum j xs
own_some j [] = omega arith
own_some j (x ∷ xs) = cond_both (eqb x.span 1 && eqb x.first j) _ _ (λ n. 1 ≤ n) (λ _. omega (arith, own_some j xs)) (λ _. own_some j xs)

module _ (q : ℕ) (j : ℕ) where
  abbrev SameLeast : List Column → List Column → Type 0
  SameLeast cs ds = least_at ds j ≡ least_at cs j

  span_spares : (x : Want) (cs : List Column) → x.first + x.span ≤ length cs → 2 ≤ x.span → Spares cs j x → SameLeast cs (raise_span q x cs)
  span_spares x cs fits two spares =
      let f : List Column → List Column = λ zs. meet_maximum q x (meet_minimum q x zs) in
      let same : (zs : List Column) → length (f zs) ≡ length zs = λ zs. sym (grown_length (grown_meet q x zs)) in
      elim (cases_lt j x.first) [
        | inl before ↦ ap (λ (c : Column). c.least) (over_before f x.first x.span cs j before)
        | inr from ↦ elim (cases_lt j (x.first + x.span)) [
          | inl to ↦
              let p = spares two from to in
              let at = spanned_at x.first x.span cs j from to in
              let len : length (spanned x cs) ≡ x.span = length-take-le x.span (drop x.first cs) (omega (arith, length-drop x.first cs)) in
              ap (λ (c : Column). c.least) (over_inside f same x.first x.span cs j fits from to) ∙
              meet_spares q x (spanned x cs) (j - x.first) (omega arith) (ap free at ∙ p.0) p.1 ∙ ap (λ (c : Column). c.least) at
          | inr after ↦ ap (λ (c : Column). c.least) (over_after f same x.first x.span cs j fits after)
        ]
      ]

  sizing_at : {cs ds : List Column} → Grown cs ds → (k : ℕ) → (get_or ds k blank_column).sizing ≡ (get_or cs k blank_column).sizing
  sizing_at none k = refl
  sizing_at (more h t) zero = sym h.1
  sizing_at (more h t) (suc k) = sizing_at t k

  spares_grown : (x : Want) {cs ds : List Column} → Grown cs ds → Spares cs j x → Spares ds j x
  spares_grown x g s two low high = let p = s two low high in (ap is_free (sizing_at g j) ∙ p.0, open_grown x g p.1)

  all_spares_grown : (xs : List Want) {cs ds : List Column} → Grown cs ds → AllByRecursion (Spares cs j) xs → AllByRecursion (Spares ds j) xs
  all_spares_grown [] g h = tt
  all_spares_grown (x ∷ xs) g h = (spares_grown x g h.0, all_spares_grown xs g h.1)

  each_spares : (top s : ℕ) (xs : List Want) (cs : List Column) → 2 ≤ s → AllByRecursion (Fits top (length cs)) xs → AllByRecursion (Spares cs j) xs → SameLeast cs (each_of s (raise_span q) xs cs)
  unfolding each_of
  each_spares top s [] cs two fits h = refl
  each_spares top s (x ∷ xs) cs two fits h =
      elim (cases_eq x.span s) [
        | inl e ↦
            let t : cond (eqb x.span s) (raise_span q x cs) cs ≡ raise_span q x cs = cond-true (eqb x.span s) (raise_span q x cs) cs (eq-eqb x.span s e) in
            let g : Grown cs (raise_span q x cs) = grown_span q x cs in
            let f = fits.0 in
            ap (λ ds. least_at (each_of s (raise_span q) xs ds) j) t ∙
            each_spares top s xs (raise_span q x cs) two (subst (λ n. AllByRecursion (Fits top n) xs) (grown_length g) fits.1) (all_spares_grown xs g h.1) ∙
            span_spares x cs f.2 (omega arith) h.0
        | inr e ↦
            let t : cond (eqb x.span s) (raise_span q x cs) cs ≡ cs = cond-false (eqb x.span s) (raise_span q x cs) cs (ne_eqb x.span s e) in
            ap (λ ds. least_at (each_of s (raise_span q) xs ds) j) t ∙ each_spares top s xs cs two fits.1 h.1
      ]

  spans_spares : (top n s : ℕ) (xs : List Want) (cs : List Column) → 2 ≤ s → AllByRecursion (Fits top (length cs)) xs → AllByRecursion (Spares cs j) xs → SameLeast cs (spans (raise_span q) n s xs cs)
  unfolding spans
  spans_spares top zero s xs cs two fits h = refl
  spans_spares top (suc n) s xs cs two fits h =
      let ds : List Column = each_of s (raise_span q) xs cs in
      let g : Grown cs ds = grown_each_of s (raise_span q) (grown_span q) xs cs in
      spans_spares top n (suc s) xs ds (omega arith) (subst (λ m. AllByRecursion (Fits top m) xs) (grown_length g) fits) (all_spares_grown xs g h) ∙ each_spares top s xs cs two fits h

  spares_fresh : (xs : List Want) (cols : List Column) → j < length cols → AllByRecursion (Spares cols j) xs → AllByRecursion (Spares (map fresh cols) j) xs
  spares_fresh [] cols h s = tt
  spares_fresh (x ∷ xs) cols h s = (
    (λ two low high.
        let p = s.0 two low high in
        (ap free (get_or-map fresh cols j blank_column blank_column h) ∙ p.0, subst (λ ws. 0 < total ws) (sym (fresh_weights x.first x.span cols)) p.1)),
    spares_fresh xs cols h s.1,
  )

  -- ---- cells of span 1

  one_at : (x : Want) (cs : List Column) → x.first + 1 ≤ length cs → x.first ≡ j → least_at (raise_one x cs) j ≡ max (least_at cs j) x.minimum
  one_at x cs fits e =
      let f : List Column → List Column = map (raised_to x) in
      let ys : List Column = take 1 (drop x.first cs) in
      let len : length ys ≡ 1 = length-take-le 1 (drop x.first cs) (omega (arith, length-drop x.first cs)) in
      let low : j - x.first < length ys = omega arith in
      ap (λ (c : Column). c.least) (over_inside f (λ zs. length-map zs (raised_to x)) x.first 1 cs j fits (omega arith) (omega arith)) ∙
      ap (λ (c : Column). c.least) (get_or-map (raised_to x) ys (j - x.first) blank_column blank_column low) ∙
      ap (λ (c : Column). max c.least x.minimum) (spanned_at x.first 1 cs j (omega arith) (omega arith))

  one_other : (x : Want) (cs : List Column) → x.first + 1 ≤ length cs → (x.first ≡ j → ⊥) → least_at (raise_one x cs) j ≡ least_at cs j
  one_other x cs fits ne =
      elim (cases_lt j x.first) [
        | inl before ↦ ap (λ (c : Column). c.least) (over_before (map (raised_to x)) x.first 1 cs j before)
        | inr from ↦ ap (λ (c : Column). c.least) (over_after (map (raised_to x)) (λ zs. length-map zs (raised_to x)) x.first 1 cs j fits (omega arith))
      ]

  ones_least : (top : ℕ) (xs : List Want) (cs : List Column) → AllByRecursion (Fits top (length cs)) xs → 1 ≤ least_at cs j → least_at (each_of 1 raise_one xs cs) j ≡ max (least_at cs j) (own_minimum j xs)
  unfolding each_of
  ones_least top [] cs fits some = omega arith
  ones_least top (x ∷ xs) cs fits some =
      let f = fits.0 in
      let own : ℕ = own_minimum j xs in
      elim (cases_eq x.span 1) [
        | inl e ↦
            let t : cond (eqb x.span 1) (raise_one x cs) cs ≡ raise_one x cs = cond-true (eqb x.span 1) (raise_one x cs) cs (eq-eqb x.span 1 e) in
            let g : Grown cs (raise_one x cs) = grown_one x cs in
            let fits' = subst (λ n. AllByRecursion (Fits top n) xs) (grown_length g) fits.1 in
            let fit : x.first + 1 ≤ length cs = omega (arith, f.2) in
            let b : eqb x.span 1 ≡ true = eq-eqb x.span 1 e in
            elim (cases_eq x.first j) [
              | inl here ↦
                  let at = one_at x cs fit here in
                  let more_own : own_minimum j (x ∷ xs) ≡ max x.minimum own = cond-true (eqb x.span 1 && eqb x.first j) _ _ (ap (λ c. c && eqb x.first j) b ∙ eq-eqb x.first j here) in
                  ap (λ ds. least_at (each_of 1 raise_one xs ds) j) t ∙ ones_least top xs (raise_one x cs) fits' (omega arith) ∙ omega arith
              | inr there ↦
                  let at = one_other x cs fit there in
                  let less_own : own_minimum j (x ∷ xs) ≡ own = cond-false (eqb x.span 1 && eqb x.first j) _ _ (ap (λ c. c && eqb x.first j) b ∙ ne_eqb x.first j there) in
                  ap (λ ds. least_at (each_of 1 raise_one xs ds) j) t ∙ ones_least top xs (raise_one x cs) fits' (omega arith) ∙ omega arith
            ]
        | inr e ↦
            let t : cond (eqb x.span 1) (raise_one x cs) cs ≡ cs = cond-false (eqb x.span 1) (raise_one x cs) cs (ne_eqb x.span 1 e) in
            let less_own : own_minimum j (x ∷ xs) ≡ own = cond-false (eqb x.span 1 && eqb x.first j) _ _ (and_left (eqb x.span 1) (eqb x.first j) (ne_eqb x.span 1 e)) in
            ap (λ ds. least_at (each_of 1 raise_one xs ds) j) t ∙ ones_least top xs cs fits.1 some ∙ omega arith
      ]

  held_least : (c : Column) → (held c).least ≡ max (fixed_of c) c.least
  held_least c =
      elim (cases_Bool (free c)) [
        | inl e ↦ ap (λ (d : Column). d.least) (cond-true (free c) c _ e) ∙ omega (arith, free_none c.sizing e)
        | inr e ↦ ap (λ (d : Column). d.least) (cond-false (free c) c _ e)
      ]

  pub exact_least : (top : ℕ) (cols : List Column) (xs : List Want) → j < length cols → AllByRecursion (Fits top (length cols)) xs → AllByRecursion (Spares cols j) xs → least_at (pass top q cols xs) j ≡ own_least (get_or cols j blank_column) (own_minimum j xs)
  unfolding pass
  exact_least top cols xs h fits spares =
      let cs : List Column = map fresh cols in
      let l : length cs ≡ length cols = length-map cols fresh in
      let fits' : AllByRecursion (Fits top (length cs)) xs = subst (λ n. AllByRecursion (Fits top n) xs) (sym l) fits in
      let ds : List Column = each_of 1 raise_one xs cs in
      let es : List Column = map held ds in
      let g : Grown cs ds = grown_each_of 1 raise_one grown_one xs cs in
      let g' : Grown cs es = grown_trans g (grown_held ds) in
      let hd : j < length ds = omega (arith, grown_length g) in
      let at_fresh : get_or cs j blank_column ≡ fresh (get_or cols j blank_column) = get_or-map fresh cols j blank_column blank_column h in
      let one : least_at cs j ≡ 1 = ap (λ (c : Column). c.least) at_fresh in
      let low = ones_least top xs cs fits' (omega arith) in
      let step2 : least_at es j ≡ max (fixed_of (get_or ds j blank_column)) (least_at ds j) = ap (λ (c : Column). c.least) (get_or-map held ds j blank_column blank_column hd) ∙ held_least (get_or ds j blank_column) in
      let same_size : fixed_of (get_or ds j blank_column) ≡ fixed_of (get_or cols j blank_column) = ap fixed_at (sizing_at g j ∙ ap (λ (c : Column). c.sizing) at_fresh) in
      let step3 = spans_spares top top 2 xs es (omega arith) (subst (λ n. AllByRecursion (Fits top n) xs) (grown_length g') fits') (all_spares_grown xs g' (spares_fresh xs cols h spares)) in
      step3 ∙ step2 ∙ omega (arith, low, same_size, own_some j xs)

-- After the column pass every cell has its minimum.
use Rattle.std.proofs.Common.{◌≡◌, ℕ, zero, suc, ◌+◌, ◌-◌, ◌*◌, ◌<◌, ◌≤◌, true, cond, eqb, List, [], ◌∷◌, map, length, take, drop, sym, refl, ap, ◌∙◌, subst, inl, inr, arith}
use Rattle.std.specs.List.{AllByRecursion}
use Rattle.std.proofs.lemmas.List.{take_at, length-take-le, length-drop, length-map}
use Rattle.std.proofs.lemmas.Bool.{cond-true, cases_eq, cases_Bool, eq-eqb, eqb-false}
use Rattle.share.specs.Share.{total, parts}
use Rattle.share.proofs.Parts.{parts_whole, parts_length}
use Rattle.plan.specs.declared.record.Column.{Column}
use Rattle.columns.specs.Wants.{Want}
use Rattle.columns.specs.Columns.{leasts, over, spanned, fresh, raised_to, raise_one, held, need, free_weights, none_free, weight, even_weights, with_parts, more_least, more_greatest, meet_minimum, meet_maximum, raise_span, each_of, spans, pass}
use Rattle.columns.specs.Laws.{Fits, Served}
use Rattle.columns.proofs.Grown.{Grown, grown_trans, grown_length, grown_sizing, still_served, grown_one, grown_span, grown_held, grown_meet, grown_each_of, grown_spans}

pub all_of : {X : Type 0} (P : X → Type 0) → ((x : X) → P x) → (xs : List X) → AllByRecursion P xs
all_of P h [] = tt
all_of P h (x ∷ xs) = (h x, all_of P h xs)

pub all_both : {X : Type 0} (P Q R : X → Type 0) → ((x : X) → P x → Q x → R x) → (xs : List X) → AllByRecursion P xs → AllByRecursion Q xs → AllByRecursion R xs
all_both P Q R h [] p q = tt
all_both P Q R h (x ∷ xs) p q = (h x p.0 q.0, all_both P Q R h xs p.1 q.1)

-- what stands in the place after f was done there
pub spanned_over : (f : List Column → List Column) → ((ys : List Column) → length (f ys) ≡ length ys) → (i k : ℕ) (xs : List Column) →
    i + k ≤ length xs → take k (drop i (over f i k xs)) ≡ f (take k (drop i xs))
unfolding over
spanned_over f h zero k xs fits = take_at (f (take k xs)) (drop k xs) k (h (take k xs) ∙ length-take-le k xs (omega arith))
spanned_over f h (suc i) k [] fits = let no : ⊥ = omega arith in absurd no
spanned_over f h (suc i) k (x ∷ xs) fits = spanned_over f h i k xs (omega arith)

-- span 1

one_enough : (x : Want) (ys : List Column) → 0 < length ys → x.minimum ≤ total (leasts (map (raised_to x) ys))
one_enough x [] h = omega arith
one_enough x (y ∷ ys) h = omega arith

serve_one : (q top : ℕ) (x : Want) (cs : List Column) → Fits top (length cs) x → x.span ≡ 1 → Served q (raise_one x cs) x
serve_one q top x cs fits e =
    let ys : List Column = take 1 (drop x.first cs) in
    let o : take 1 (drop x.first (raise_one x cs)) ≡ map (raised_to x) ys =
    spanned_over (map (raised_to x)) (λ zs. length-map zs (raised_to x)) x.first 1 cs (omega arith) in
    let l : length ys ≡ 1 = length-take-le 1 (drop x.first cs) (omega (arith, length-drop x.first cs)) in
    let m : x.minimum ≤ total (leasts (map (raised_to x) ys)) = one_enough x ys (omega arith) in
    rw (e, o) (omega arith)

-- a longer span

pub leasts_widened : (ps : List ℕ) (cs : List Column) → leasts (with_parts more_greatest ps cs) ≡ leasts cs
unfolding with_parts
leasts_widened [] cs = refl
leasts_widened (p ∷ ps) [] = refl
leasts_widened (p ∷ ps) (c ∷ cs) = ap (λ ls. c.least ∷ ls) (leasts_widened ps cs)

total_raised : (ps : List ℕ) (cs : List Column) → length ps ≡ length cs → total (leasts (with_parts more_least ps cs)) ≡ total (leasts cs) + total ps
unfolding with_parts
total_raised [] cs h = omega arith
total_raised (p ∷ ps) [] h = omega arith
total_raised (p ∷ ps) (c ∷ cs) h = omega (arith, total_raised ps cs (omega arith))

total_all : (cs : List Column) → total (map (weight true) cs) ≡ length cs
total_all [] = refl
total_all (c ∷ cs) = omega (arith, total_all cs)

pub even_pos : (cs : List Column) → 0 < length cs → 0 < total (even_weights cs)
even_pos cs h =
    elim (cases_Bool (none_free cs)) [
      | inl e ↦ rw e (omega (arith, total_all cs))
      | inr e ↦ rw e (omega (arith, eqb-false (total (free_weights cs)) 0 e))
    ]

meet_enough : (q : ℕ) (x : Want) (ys : List Column) → 0 < length ys →
    x.minimum ≤ total (leasts (meet_maximum q x (meet_minimum q x ys))) + (x.span - 1) * q
unfolding meet_maximum meet_minimum
meet_enough q x ys h =
    let N : ℕ = need q x.span x.minimum (leasts ys) in
    let ps : List ℕ = parts N (even_weights ys) in
    let s : total ps ≡ N = parts_whole N (even_weights ys) (even_pos ys h) in
    let r = total_raised ps ys (parts_length N (total (even_weights ys)) 0 (even_weights ys) ∙ length-map ys (weight (none_free ys))) in
    simp leasts_widened (omega arith)

serve_span : (q top : ℕ) (x : Want) (cs : List Column) → Fits top (length cs) x → Served q (raise_span q x cs) x
serve_span q top x cs fits =
    let ys : List Column = spanned x cs in
    let l : length ys ≡ x.span = length-take-le x.span (drop x.first cs) (omega (arith, length-drop x.first cs)) in
    let o : spanned x (raise_span q x cs) ≡ meet_maximum q x (meet_minimum q x ys) =
    spanned_over (λ zs. meet_maximum q x (meet_minimum q x zs)) (λ zs. sym (grown_length (grown_meet q x zs))) x.first x.span cs (omega arith) in
    rw o (meet_enough q x ys (omega arith))

-- all cells of a span, and all spans

module _ (q top N : ℕ) where
  each_of_serves : (s : ℕ) (f : Want → List Column → List Column) → ((x : Want) (cs : List Column) → Grown cs (f x cs)) →
      ((x : Want) (cs : List Column) → Fits top (length cs) x → x.span ≡ s → Served q (f x cs) x) →
      (xs : List Want) (cs : List Column) → length cs ≡ N → AllByRecursion (Fits top N) xs → AllByRecursion (λ x. x.span ≡ s → Served q (each_of s f xs cs) x) xs
  unfolding each_of
  each_of_serves s f g h [] cs l fits = tt
  each_of_serves s f g h (x ∷ xs) cs l fits =
      let ds : List Column = cond (eqb x.span s) (f x cs) cs in
      let gd : Grown cs ds = grown_each_of s f g (x ∷ []) cs in (
        (λ e.
            let t : ds ≡ f x cs = cond-true (eqb x.span s) (f x cs) cs (eq-eqb x.span s e) in
            let here : Served q (f x cs) x = h x cs (subst (λ n. Fits top n x) (sym l) fits.0) e in
            let here' : Served q ds x = rw t here in
            still_served q x (grown_each_of s f g xs ds) here'),
        each_of_serves s f g h xs ds (sym (grown_length gd) ∙ l) fits.1,
      )

  spans_serve : (n s : ℕ) (xs : List Want) (cs : List Column) → length cs ≡ N → AllByRecursion (Fits top N) xs →
      AllByRecursion (λ x. s ≤ x.span → x.span < s + n → Served q (spans (raise_span q) n s xs cs) x) xs
  unfolding spans
  spans_serve zero s xs cs l fits = all_of _ (λ x lo hi. omega arith) xs
  spans_serve (suc n) s xs cs l fits =
      let ds : List Column = each_of s (raise_span q) xs cs in
      let gd : Grown cs ds = grown_each_of s (raise_span q) (grown_span q) xs cs in
      let here = each_of_serves s (raise_span q) (grown_span q) (λ x es f e. serve_span q top x es f) xs cs l fits in
      let rest = spans_serve n (suc s) xs ds (sym (grown_length gd) ∙ l) fits in
      all_both (λ x. x.span ≡ s → Served q ds x) (λ x. suc s ≤ x.span → x.span < suc s + n → Served q (spans (raise_span q) n (suc s) xs ds) x)
      (λ x. s ≤ x.span → x.span < s + suc n → Served q (spans (raise_span q) n (suc s) xs ds) x)
      (λ x p r lo hi. elim (cases_eq x.span s) [
        | inl e ↦ still_served q x (grown_spans q n (suc s) xs ds) (p e)
        | inr ne ↦ r (omega arith) (omega arith)
      ])
      xs here rest

pub minimums_are_met : (top q : ℕ) (cols : List Column) (xs : List Want) → AllByRecursion (Fits top (length cols)) xs → AllByRecursion (Served q (pass top q cols xs)) xs
unfolding pass
minimums_are_met top q cols xs fits =
    let N : ℕ = length cols in
    let cs : List Column = map fresh cols in
    let l : length cs ≡ N = length-map cols fresh in
    let ds : List Column = each_of 1 raise_one xs cs in
    let es : List Column = map held ds in
    let end : List Column = spans (raise_span q) top 2 xs es in
    let g : Grown cs ds = grown_each_of 1 raise_one grown_one xs cs in
    let g' : Grown ds es = grown_held ds in
    let ones = each_of_serves q top N 1 raise_one grown_one (serve_one q top) xs cs l fits in
    let rest = spans_serve q top N top 2 xs es (sym (grown_length (grown_trans g g')) ∙ l) fits in
    let both = all_both (λ x. x.span ≡ 1 → Served q ds x) (λ x. 2 ≤ x.span → x.span < 2 + top → Served q end x)
    (λ x. Fits top N x → Served q end x)
    (λ x p r fit. elim (cases_eq x.span 1) [
      | inl e ↦ still_served q x (grown_trans g' (grown_spans q top 2 xs es)) (p e)
      | inr ne ↦ r (omega arith) (omega arith)
    ])
    xs ones rest in
    all_both (λ x. Fits top N x → Served q end x) (Fits top N) (Served q end) (λ x h f. h f) xs both fits

pub columns_stay : (top q : ℕ) (cols : List Column) (xs : List Want) → length (pass top q cols xs) ≡ length cols
unfolding pass
columns_stay top q cols xs =
    let cs : List Column = map fresh cols in
    let ds : List Column = each_of 1 raise_one xs cs in
    sym (grown_length (grown_trans (grown_each_of 1 raise_one grown_one xs cs) (grown_trans (grown_held ds) (grown_spans q top 2 xs (map held ds))))) ∙ length-map cols fresh

pub fresh_sizing : (cs : List Column) → map (λ (c : Column). c.sizing) (map fresh cs) ≡ map (λ (c : Column). c.sizing) cs
fresh_sizing [] = refl
fresh_sizing (c ∷ cs) = ap (λ xs. c.sizing ∷ xs) (fresh_sizing cs)

-- no column is sized otherwise than it was
pub sizings_stay : (top q : ℕ) (cols : List Column) (xs : List Want) → map (λ (c : Column). c.sizing) (pass top q cols xs) ≡ map (λ (c : Column). c.sizing) cols
unfolding pass
sizings_stay top q cols xs =
    let cs : List Column = map fresh cols in
    let ds : List Column = each_of 1 raise_one xs cs in
    grown_sizing (grown_trans (grown_each_of 1 raise_one grown_one xs cs) (grown_trans (grown_held ds) (grown_spans q top 2 xs (map held ds)))) ∙ fresh_sizing cols

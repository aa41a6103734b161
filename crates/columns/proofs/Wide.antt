-- After the column pass every cell that spans a free column has its maximum.
use Rattle.std.proofs.Common.{◌≡◌, ℕ, zero, suc, ◌+◌, ◌-◌, ◌*◌, ◌<◌, ◌≤◌, cond, eqb, List, [], ◌∷◌, ◌++◌, map, length, take, drop, sym, refl, ap, ◌∙◌, subst, ap₂, inl, inr, le_refl, arith}
use Rattle.std.specs.List.{AllByRecursion}
use Rattle.std.proofs.ByRecursion.{All-take, All-weaker}
use Rattle.std.proofs.lemmas.List.{take-append-drop, length-take-le, length-drop, length-map, take-map, drop-map}
use Rattle.std.proofs.lemmas.Bool.{cond_both, cond-true, cond-false, cases_eq, cases_Bool, eq-eqb}
use Rattle.share.specs.Share.{total, parts}
use Rattle.share.proofs.Parts.{parts_whole, parts_length}
use Rattle.plan.specs.declared.record.Column.{Column}
use Rattle.columns.specs.Wants.{Want}
use Rattle.columns.specs.Columns.{leasts, greatests, free, is_free, over, spanned, fresh, raised_to, raise_one, held, need, free_weights, even_weights, with_parts, more_least, more_greatest, meet_minimum, meet_maximum, raise_span, each_of, spans, pass}
use Rattle.columns.specs.Laws.{Fits, Settled, Open, Wide}
use Rattle.columns.proofs.Grown.{Grown, none, more, grown_trans, grown_take, grown_drop, grown_length, grown_one, grown_span, grown_held, grown_meet, grown_each_of}
use Rattle.columns.proofs.Settled.{keeps_over, keeps_meet, keeps_each_of, held_settled}
use Rattle.columns.proofs.Served.{spanned_over, all_of, all_both}

-- as many columns, none sized otherwise and none with a smaller greatest
pub data Widened : List Column → List Column → Type 0 where
  same : Widened [] []
  more_wide : {c d : Column} {cs ds : List Column} → c.greatest ≤ d.greatest → Widened cs ds → Widened (c ∷ cs) (d ∷ ds)

widened_refl : (cs : List Column) → Widened cs cs
widened_refl [] = same
widened_refl (c ∷ cs) = more_wide (le_refl c.greatest) (widened_refl cs)

widened_trans : {cs ds es : List Column} → Widened cs ds → Widened ds es → Widened cs es
widened_trans same h = h
widened_trans (more_wide h t) (more_wide k u) = more_wide (omega arith) (widened_trans t u)

widened_append : {cs ds es fs : List Column} → Widened cs ds → Widened es fs → Widened (cs ++ es) (ds ++ fs)
widened_append same g = g
widened_append (more_wide h t) g = more_wide h (widened_append t g)

widened_drop : (i : ℕ) {cs ds : List Column} → Widened cs ds → Widened (drop i cs) (drop i ds)
widened_drop zero g = g
widened_drop (suc i) same = same
widened_drop (suc i) (more_wide h t) = widened_drop i t

widened_take : (k : ℕ) {cs ds : List Column} → Widened cs ds → Widened (take k cs) (take k ds)
widened_take zero g = same
widened_take (suc k) same = same
widened_take (suc k) (more_wide h t) = more_wide h (widened_take k t)

widened_total : {cs ds : List Column} → Widened cs ds → total (greatests cs) ≤ total (greatests ds)
widened_total same = le_refl 0
widened_total (more_wide h t) = omega (arith, widened_total t)

still_wide : (q : ℕ) (x : Want) {cs ds : List Column} → Widened cs ds → Wide q cs x → Wide q ds x
still_wide q x g h = omega (arith, widened_total (widened_take x.span (widened_drop x.first g)))

-- ---- each step widens

widened_over : (Q : Column → Type 0) (f : List Column → List Column) → ((ys : List Column) → AllByRecursion Q ys → Widened ys (f ys)) → (i k : ℕ) (xs : List Column) → AllByRecursion Q xs → Widened xs (over f i k xs)
unfolding over
widened_over Q f h zero k xs o =
    subst (λ zs. Widened zs (f (take k xs) ++ drop k xs)) (take-append-drop k xs) (widened_append (h (take k xs) (All-take Q k xs o)) (widened_refl (drop k xs)))
widened_over Q f h (suc i) k [] o = same
widened_over Q f h (suc i) k (x ∷ xs) o = more_wide (le_refl x.greatest) (widened_over Q f h i k xs o.1)

widened_map : (f : Column → Column) → ((c : Column) → c.greatest ≤ (f c).greatest) → (cs : List Column) → Widened cs (map f cs)
widened_map f h [] = same
widened_map f h (c ∷ cs) = more_wide (h c) (widened_map f h cs)

more_least_wide : (p : ℕ) (c : Column) → Settled c → c.greatest ≤ (more_least p c).greatest
more_least_wide p c s =
    cond_both (free c) _ _ (λ g. c.greatest ≤ g) (λ e. omega arith) (λ e. omega (arith, (s e).0))

widened_least : (ps : List ℕ) (cs : List Column) → AllByRecursion Settled cs → Widened cs (with_parts more_least ps cs)
unfolding with_parts
widened_least [] cs o = widened_refl cs
widened_least (p ∷ ps) [] o = same
widened_least (p ∷ ps) (c ∷ cs) o = more_wide (more_least_wide p c o.0) (widened_least ps cs o.1)

widened_greatest : (ps : List ℕ) (cs : List Column) → Widened cs (with_parts more_greatest ps cs)
unfolding with_parts
widened_greatest [] cs = widened_refl cs
widened_greatest (p ∷ ps) [] = same
widened_greatest (p ∷ ps) (c ∷ cs) = more_wide (omega arith) (widened_greatest ps cs)

widened_meet : (q : ℕ) (x : Want) (cs : List Column) → AllByRecursion Settled cs → Widened cs (meet_maximum q x (meet_minimum q x cs))
unfolding meet_maximum meet_minimum
widened_meet q x cs o = widened_trans (widened_least _ cs o) (widened_greatest _ _)

pub widened_span : (q : ℕ) (x : Want) (cs : List Column) → AllByRecursion Settled cs → Widened cs (raise_span q x cs)
widened_span q x cs o = widened_over Settled _ (widened_meet q x) x.first x.span cs o

settled_span : (q : ℕ) (x : Want) (cs : List Column) → AllByRecursion Settled cs → AllByRecursion Settled (raise_span q x cs)
settled_span q x cs o = keeps_over _ (keeps_meet q x) x.first x.span cs o

widened_each : (q s : ℕ) (xs : List Want) (cs : List Column) → AllByRecursion Settled cs → Widened cs (each_of s (raise_span q) xs cs)
unfolding each_of
widened_each q s [] cs o = widened_refl cs
widened_each q s (x ∷ xs) cs o =
    widened_trans
    (cond_both (eqb x.span s) (raise_span q x cs) cs (Widened cs) (λ e. widened_span q x cs o) (λ e. widened_refl cs))
    (widened_each q s xs _ (cond_both (eqb x.span s) (raise_span q x cs) cs (AllByRecursion Settled) (λ e. settled_span q x cs o) (λ e. o)))

widened_spans : (q n s : ℕ) (xs : List Want) (cs : List Column) → AllByRecursion Settled cs → Widened cs (spans (raise_span q) n s xs cs)
unfolding spans
widened_spans q zero s xs cs o = widened_refl cs
widened_spans q (suc n) s xs cs o = widened_trans (widened_each q s xs cs o) (widened_spans q n (suc s) xs _ (keeps_each_of q s xs cs o))

-- ---- sizings, and so which columns are free, stay

weights_grown : {cs ds : List Column} → Grown cs ds → free_weights ds ≡ free_weights cs
weights_grown none = refl
weights_grown (more h t) = ap₂ (λ z ws. cond (is_free z) 1 0 ∷ ws) (sym h.1) (weights_grown t)

pub open_grown : (x : Want) {cs ds : List Column} → Grown cs ds → Open x cs → Open x ds
open_grown x g o = subst (λ ws. 0 < total ws) (sym (weights_grown (grown_take x.span (grown_drop x.first g)))) o

-- ---- a span of 1

one_wide : (x : Want) (ys : List Column) → 0 < length ys → x.maximum ≤ total (greatests (map (raised_to x) ys))
one_wide x [] h = omega arith
one_wide x (y ∷ ys) h = omega arith

serve_one_wide : (q top : ℕ) (x : Want) (cs : List Column) → Fits top (length cs) x → x.span ≡ 1 → Wide q (raise_one x cs) x
serve_one_wide q top x cs fits e =
    let ys : List Column = take 1 (drop x.first cs) in
    let o : take 1 (drop x.first (raise_one x cs)) ≡ map (raised_to x) ys = spanned_over (map (raised_to x)) (λ zs. length-map zs (raised_to x)) x.first 1 cs (omega arith) in
    let l : length ys ≡ 1 = length-take-le 1 (drop x.first cs) (omega (arith, length-drop x.first cs)) in
    let m : x.maximum ≤ total (greatests (map (raised_to x) ys)) = one_wide x ys (omega arith) in
    rw (e, o) (omega arith)

pub widened_one : (x : Want) (cs : List Column) → Widened cs (raise_one x cs)
widened_one x cs = widened_over (λ _. Unit {0}) (map (raised_to x)) (λ ys _. widened_map (raised_to x) (λ c. omega arith) ys) x.first 1 cs (all_of (λ _. Unit {0}) (λ _. tt) cs)

widened_ones : (xs : List Want) (cs : List Column) → Widened cs (each_of 1 raise_one xs cs)
unfolding each_of
widened_ones [] cs = widened_refl cs
widened_ones (x ∷ xs) cs =
    widened_trans (cond_both (eqb x.span 1) (raise_one x cs) cs (Widened cs) (λ e. widened_one x cs) (λ e. widened_refl cs)) (widened_ones xs _)

-- ---- a longer span

greatests_raised : (ps : List ℕ) (cs : List Column) → length ps ≡ length cs → total (greatests (with_parts more_greatest ps cs)) ≡ total (greatests cs) + total ps
unfolding with_parts
greatests_raised [] cs h = omega arith
greatests_raised (p ∷ ps) [] h = omega arith
greatests_raised (p ∷ ps) (c ∷ cs) h = omega (arith, greatests_raised ps cs (omega arith))

weights_least : (ps : List ℕ) (cs : List Column) → free_weights (with_parts more_least ps cs) ≡ free_weights cs
unfolding with_parts
weights_least [] cs = refl
weights_least (p ∷ ps) [] = refl
weights_least (p ∷ ps) (c ∷ cs) = ap (λ ws. cond (free c) 1 0 ∷ ws) (weights_least ps cs)

meet_wide : (q : ℕ) (x : Want) (ys : List Column) → 0 < total (free_weights ys) → x.maximum ≤ total (greatests (meet_maximum q x (meet_minimum q x ys))) + (x.span - 1) * q
unfolding meet_maximum meet_minimum
meet_wide q x ys o =
    let zs : List Column = with_parts more_least (parts (need q x.span x.minimum (leasts ys)) (even_weights ys)) ys in
    let N : ℕ = need q x.span x.maximum (greatests zs) in
    let ps : List ℕ = parts N (free_weights zs) in
    let some : 0 < total (free_weights zs) = subst (λ ws. 0 < total ws) (sym (weights_least _ ys)) o in
    let s : total ps ≡ N = parts_whole N (free_weights zs) some in
    let r = greatests_raised ps zs (parts_length N (total (free_weights zs)) 0 (free_weights zs) ∙ length-map zs (λ c. cond (free c) 1 0)) in
    omega arith

serve_span_wide : (q top : ℕ) (x : Want) (cs : List Column) → Fits top (length cs) x → Open x cs → Wide q (raise_span q x cs) x
serve_span_wide q top x cs fits opn =
    let ys : List Column = spanned x cs in
    let o : spanned x (raise_span q x cs) ≡ meet_maximum q x (meet_minimum q x ys) =
    spanned_over (λ zs. meet_maximum q x (meet_minimum q x zs)) (λ zs. sym (grown_length (grown_meet q x zs))) x.first x.span cs (omega arith) in
    rw o (meet_wide q x ys opn)

-- ---- all cells of a span, and all spans

module _ (q top N : ℕ) where
  ones_wide : (xs : List Want) (cs : List Column) → length cs ≡ N → AllByRecursion (Fits top N) xs → AllByRecursion (λ x. x.span ≡ 1 → Wide q (each_of 1 raise_one xs cs) x) xs
  unfolding each_of
  ones_wide [] cs l fits = tt
  ones_wide (x ∷ xs) cs l fits =
      let ds : List Column = cond (eqb x.span 1) (raise_one x cs) cs in
      let gd : Grown cs ds = grown_each_of 1 raise_one grown_one (x ∷ []) cs in (
        (λ e.
            let t : ds ≡ raise_one x cs = cond-true (eqb x.span 1) (raise_one x cs) cs (eq-eqb x.span 1 e) in
            let here : Wide q (raise_one x cs) x = serve_one_wide q top x cs (subst (λ n. Fits top n x) (sym l) fits.0) e in
            still_wide q x (widened_ones xs ds) (subst (λ zs. Wide q zs x) (sym t) here)),
        ones_wide xs ds (sym (grown_length gd) ∙ l) fits.1,
      )

  each_wide : (s : ℕ) (xs : List Want) (cs : List Column) → AllByRecursion Settled cs → length cs ≡ N → AllByRecursion (Fits top N) xs → AllByRecursion (λ x. x.span ≡ s → Open x cs → Wide q (each_of s (raise_span q) xs cs) x) xs
  unfolding each_of
  each_wide s [] cs o l fits = tt
  each_wide s (x ∷ xs) cs o l fits =
      let ds : List Column = cond (eqb x.span s) (raise_span q x cs) cs in
      let gd : Grown cs ds = grown_each_of s (raise_span q) (grown_span q) (x ∷ []) cs in
      let od : AllByRecursion Settled ds = keeps_each_of q s (x ∷ []) cs o in
      let rest = each_wide s xs ds od (sym (grown_length gd) ∙ l) fits.1 in (
        (λ e opn.
            let t : ds ≡ raise_span q x cs = cond-true (eqb x.span s) (raise_span q x cs) cs (eq-eqb x.span s e) in
            let here : Wide q (raise_span q x cs) x = serve_span_wide q top x cs (subst (λ n. Fits top n x) (sym l) fits.0) opn in
            still_wide q x (widened_each q s xs ds od) (subst (λ zs. Wide q zs x) (sym t) here)),
        All-weaker (λ y. y.span ≡ s → Open y ds → Wide q (each_of s (raise_span q) xs ds) y) (λ y. y.span ≡ s → Open y cs → Wide q (each_of s (raise_span q) xs ds) y) (λ y h e opn. h e (open_grown y gd opn)) xs rest,
      )

  spans_wide : (n s : ℕ) (xs : List Want) (cs : List Column) → AllByRecursion Settled cs → length cs ≡ N → AllByRecursion (Fits top N) xs → AllByRecursion (λ x. s ≤ x.span → x.span < s + n → Open x cs → Wide q (spans (raise_span q) n s xs cs) x) xs
  unfolding spans
  spans_wide zero s xs cs o l fits = all_of _ (λ x lo hi. omega arith) xs
  spans_wide (suc n) s xs cs o l fits =
      let ds : List Column = each_of s (raise_span q) xs cs in
      let gd : Grown cs ds = grown_each_of s (raise_span q) (grown_span q) xs cs in
      let od : AllByRecursion Settled ds = keeps_each_of q s xs cs o in
      let here = each_wide s xs cs o l fits in
      let rest = spans_wide n (suc s) xs ds od (sym (grown_length gd) ∙ l) fits in
      all_both (λ x. x.span ≡ s → Open x cs → Wide q ds x) (λ x. suc s ≤ x.span → x.span < suc s + n → Open x ds → Wide q (spans (raise_span q) n (suc s) xs ds) x)
      (λ x. s ≤ x.span → x.span < s + suc n → Open x cs → Wide q (spans (raise_span q) n (suc s) xs ds) x)
      (λ x p r lo hi opn. elim (cases_eq x.span s) [
        | inl e ↦ still_wide q x (widened_spans q n (suc s) xs ds od) (p e opn)
        | inr ne ↦ r (omega arith) (omega arith) (open_grown x gd opn)
      ])
      xs here rest

spanned_map : (f : Column → Column) (i k : ℕ) (cs : List Column) → take k (drop i (map f cs)) ≡ map f (take k (drop i cs))
spanned_map f i k cs = ap (take k) (drop-map f i cs) ∙ take-map f k (drop i cs)

weights_fresh : (cs : List Column) → free_weights (map fresh cs) ≡ free_weights cs
weights_fresh [] = refl
weights_fresh (c ∷ cs) = ap (λ ws. cond (free c) 1 0 ∷ ws) (weights_fresh cs)

pub fresh_weights : (i k : ℕ) (cs : List Column) → free_weights (take k (drop i (map fresh cs))) ≡ free_weights (take k (drop i cs))
fresh_weights i k cs = ap free_weights (spanned_map fresh i k cs) ∙ weights_fresh (take k (drop i cs))

-- a free column by itself is as it was after step 2
held_open : (x : Want) (ys : List Column) → length ys ≡ 1 → 0 < total (free_weights ys) → map held ys ≡ ys
held_open x [] l o = refl
held_open x (y ∷ []) l o =
    elim (cases_Bool (free y)) [
      | inl e ↦ ap (λ c. c ∷ []) (cond-true (free y) y _ e)
      | inr e ↦ let z : cond {A = ℕ} (free y) 1 0 ≡ 0 = cond-false (free y) 1 0 e in absurd (omega arith)
    ]
held_open x (y ∷ (z ∷ zs)) l o = absurd (omega arith)

pub maximums_are_met : (top q : ℕ) (cols : List Column) (xs : List Want) → AllByRecursion (Fits top (length cols)) xs → AllByRecursion (λ x. Open x cols → Wide q (pass top q cols xs) x) xs
unfolding pass
maximums_are_met top q cols xs fits =
    let N : ℕ = length cols in
    let cs : List Column = map fresh cols in
    let l : length cs ≡ N = length-map cols fresh in
    let ds : List Column = each_of 1 raise_one xs cs in
    let es : List Column = map held ds in
    let end : List Column = spans (raise_span q) top 2 xs es in
    let o : AllByRecursion Settled es = held_settled ds in
    let g : Grown cs ds = grown_each_of 1 raise_one grown_one xs cs in
    let g' : Grown ds es = grown_held ds in
    let ones = ones_wide q top N xs cs l fits in
    let rest = spans_wide q top N top 2 xs es o (sym (grown_length (grown_trans g g')) ∙ l) fits in
    let start : (x : Want) → Open x cols → Open x cs = λ x opn. subst (λ ws. 0 < total ws) (sym (fresh_weights x.first x.span cols)) opn in
    let both = all_both (λ x. x.span ≡ 1 → Wide q ds x) (λ x. 2 ≤ x.span → x.span < 2 + top → Open x es → Wide q end x)
    (λ x. Fits top N x → Open x cols → Wide q end x)
    (λ x p r fit opn. elim (cases_eq x.span 1) [
      | inl e ↦
          let at : Open x ds = open_grown x g (start x opn) in
          let ys : List Column = spanned x ds in
          let len : length ys ≡ 1 = length-take-le x.span (drop x.first ds) (omega (arith, length-drop x.first ds, grown_length g)) ∙ e in
          let kept : spanned x es ≡ ys = spanned_map held x.first x.span ds ∙ held_open x ys len at in
          still_wide q x (widened_spans q top 2 xs es o) (subst (λ zs. x.maximum ≤ total (greatests zs) + (x.span - 1) * q) (sym kept) (p e))
      | inr ne ↦ r (omega arith) (omega arith) (open_grown x (grown_trans g g') (start x opn))
    ])
    xs ones rest in
    all_both (λ x. Fits top N x → Open x cols → Wide q end x) (Fits top N) (λ x. Open x cols → Wide q end x) (λ x h f. h f) xs both fits

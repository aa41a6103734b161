-- No least and no greatest passes what bounds the fixed widths, the minimums and the maximums.
use Rattle.std.proofs.Common.{◌≡◌, ℕ, zero, suc, ◌+◌, ◌-◌, ◌*◌, ◌/◌, ◌≤◌, max, eqb, ◌⊎◌, List, [], ◌∷◌, map, take, sym, refl, ap, ◌∙◌, subst, inl, inr, arith}
use native.Mathlib.Nat.{div-zero}
use Rattle.std.specs.List.{AllByRecursion}
use Rattle.std.proofs.ByRecursion.{All-append, All-take, All-drop}
use Rattle.std.proofs.lemmas.Bool.{cond_both, cases_eq}
use Rattle.share.specs.Share.{total, parts}
use Rattle.share.proofs.Parts.{parts_whole, telescope}
use Rattle.plan.specs.declared.record.Column.{Column}
use Rattle.columns.specs.Wants.{Want}
use Rattle.columns.specs.Columns.{leasts, greatests, free, fixed_at, over, fresh, raised_to, raise_one, held, need, free_weights, even_weights, with_parts, more_least, more_greatest, meet_minimum, meet_maximum, raise_span, each_of, spans, pass}
use Rattle.columns.proofs.Grown.{grown_sizing, grown_each_of, grown_one}
use Rattle.columns.proofs.Served.{fresh_sizing}
use Rattle.columns.specs.Laws.{Bounded}

-- the parts never come to more than the amount
parts_most : (W : ℕ) (ws : List ℕ) (D : ℕ) → total ws ≡ D → total (parts W ws) ≤ W
parts_most W ws zero e =
    let t = telescope W (total ws) 0 ws in
    let z : W * (0 + total ws) / total ws ≡ 0 = ap (λ d. W * (0 + total ws) / d) e ∙ div-zero _ in
    omega arith
parts_most W ws (suc D) e = omega (arith, parts_whole W ws (omega arith))

module _ (M : ℕ) where
  abbrev Keeps : (List Column → List Column) → Type 0
  Keeps f = (cs : List Column) → AllByRecursion (Bounded M) cs → AllByRecursion (Bounded M) (f cs)

  keeps_over : (f : List Column → List Column) → Keeps f → (i k : ℕ) → Keeps (over f i k)
  unfolding over
  keeps_over f h zero k xs o = All-append (Bounded M) _ _ (h (take k xs) (All-take (Bounded M) k xs o)) (All-drop (Bounded M) k xs o)
  keeps_over f h (suc i) k [] o = tt
  keeps_over f h (suc i) k (x ∷ xs) o = (o.0, keeps_over f h i k xs o.1)

  keeps_map : (f : Column → Column) → ((c : Column) → Bounded M c → Bounded M (f c)) → Keeps (map f)
  keeps_map f h [] o = tt
  keeps_map f h (c ∷ cs) o = (h c o.0, keeps_map f h cs o.1)

  bounded_least : (ps : List ℕ) (cs : List Column) → AllByRecursion (Bounded M) cs → (total ps ≡ 0) ⊎ (total (leasts cs) + total ps ≤ M) → AllByRecursion (Bounded M) (with_parts more_least ps cs)
  unfolding with_parts
  bounded_least [] cs o h = o
  bounded_least (p ∷ ps) [] o h = tt
  bounded_least (p ∷ ps) (c ∷ cs) o h =
      let b = o.0 in
      let l : c.least + p ≤ M = elim h [ inl e ↦ omega (arith, b.0) | inr e ↦ omega arith ] in
      let rest : (total ps ≡ 0) ⊎ (total (leasts cs) + total ps ≤ M) = elim h [ inl e ↦ inl (omega arith) | inr e ↦ inr (omega arith) ] in (
        (l, cond_both (free c) (max c.greatest (c.least + p)) (c.least + p) (λ g. g ≤ M) (λ e. omega (arith, b.1)) (λ e. l)),
        bounded_least ps cs o.1 rest,
      )

  bounded_greatest : (ps : List ℕ) (cs : List Column) → AllByRecursion (Bounded M) cs → (total ps ≡ 0) ⊎ (total (greatests cs) + total ps ≤ M) → AllByRecursion (Bounded M) (with_parts more_greatest ps cs)
  unfolding with_parts
  bounded_greatest [] cs o h = o
  bounded_greatest (p ∷ ps) [] o h = tt
  bounded_greatest (p ∷ ps) (c ∷ cs) o h =
      let b = o.0 in
      let l : c.greatest + p ≤ M = elim h [ inl e ↦ omega (arith, b.1) | inr e ↦ omega arith ] in
      let rest : (total ps ≡ 0) ⊎ (total (greatests cs) + total ps ≤ M) = elim h [ inl e ↦ inl (omega arith) | inr e ↦ inr (omega arith) ] in
      ((b.0, l), bounded_greatest ps cs o.1 rest)

  -- a need that is shared brings the span to no more than M
  need_fits : (a m : ℕ) (has ps : List ℕ) → m ≤ M → total ps ≤ m - a - total has → (total ps ≡ 0) ⊎ (total has + total ps ≤ M)
  need_fits a m has ps h l = elim (cases_eq (total ps) 0) [ inl e ↦ inl e | inr n ↦ inr (omega arith) ]

  keeps_meet : (q : ℕ) (x : Want) → (x.minimum ≤ M) × (x.maximum ≤ M) → Keeps (λ cs. meet_maximum q x (meet_minimum q x cs))
  unfolding meet_maximum meet_minimum
  keeps_meet q x h cs o =
      let ps : List ℕ = parts (need q x.span x.minimum (leasts cs)) (even_weights cs) in
      let ds : List Column = with_parts more_least ps cs in
      let one : AllByRecursion (Bounded M) ds =
      bounded_least ps cs o (need_fits ((x.span - 1) * q) x.minimum (leasts cs) ps h.0 (parts_most _ (even_weights cs) _ refl)) in
      let qs : List ℕ = parts (need q x.span x.maximum (greatests ds)) (free_weights ds) in
      bounded_greatest qs ds one (need_fits ((x.span - 1) * q) x.maximum (greatests ds) qs h.1 (parts_most _ (free_weights ds) _ refl))

  keeps_each_of : (s : ℕ) (f : Want → List Column → List Column) (xs : List Want) → AllByRecursion (λ x. Keeps (f x)) xs → Keeps (each_of s f xs)
  unfolding each_of
  keeps_each_of s f [] h cs o = o
  keeps_each_of s f (x ∷ xs) h cs o =
      keeps_each_of s f xs h.1 _ (cond_both (eqb x.span s) (f x cs) cs (AllByRecursion (Bounded M)) (λ e. h.0 cs o) (λ e. o))

  keeps_spans : (f : Want → List Column → List Column) (n s : ℕ) (xs : List Want) → AllByRecursion (λ x. Keeps (f x)) xs → Keeps (spans f n s xs)
  unfolding spans
  keeps_spans f zero s xs h cs o = o
  keeps_spans f (suc n) s xs h cs o = keeps_spans f n (suc s) xs h _ (keeps_each_of s f xs h cs o)

  ones_keep : (xs : List Want) → AllByRecursion (λ (x : Want). (x.minimum ≤ M) × (x.maximum ≤ M)) xs → AllByRecursion (λ x. Keeps (raise_one x)) xs
  ones_keep [] h = tt
  ones_keep (x ∷ xs) h =
      let k = h.0 in
      (keeps_over _ (keeps_map (raised_to x) (λ c o. (omega (arith, o.0, k.0), omega (arith, o.1, k.1)))) x.first 1, ones_keep xs h.1)

  spans_keep : (q : ℕ) (xs : List Want) → AllByRecursion (λ (x : Want). (x.minimum ≤ M) × (x.maximum ≤ M)) xs → AllByRecursion (λ x. Keeps (raise_span q x)) xs
  spans_keep q [] h = tt
  spans_keep q (x ∷ xs) h = (keeps_over _ (keeps_meet q x h.0) x.first x.span, spans_keep q xs h.1)

  held_keeps : (cs : List Column) → AllByRecursion (Bounded M) cs → AllByRecursion (λ z. fixed_at z ≤ M) (map (λ (c : Column). c.sizing) cs) → AllByRecursion (Bounded M) (map held cs)
  held_keeps [] o f = tt
  held_keeps (c ∷ cs) o f =
      let b = o.0 in
      (cond_both (free c) c _ (Bounded M) (λ e. b) (λ e. (omega (arith, b.0, f.0), omega (arith, b.0, f.0))), held_keeps cs o.1 f.1)

  fresh_bounded : (cs : List Column) → 1 ≤ M → AllByRecursion (Bounded M) (map fresh cs)
  fresh_bounded [] h = tt
  fresh_bounded (c ∷ cs) h = ((h, h), fresh_bounded cs h)

pub columns_are_bounded : (top q : ℕ) (cols : List Column) (xs : List Want) (M : ℕ) → 1 ≤ M → AllByRecursion (λ z. fixed_at z ≤ M) (map (λ (c : Column). c.sizing) cols) → AllByRecursion (λ (x : Want). (x.minimum ≤ M) × (x.maximum ≤ M)) xs → AllByRecursion (Bounded M) (pass top q cols xs)
unfolding pass
columns_are_bounded top q cols xs M one f h =
    let cs : List Column = map fresh cols in
    let ds : List Column = each_of 1 raise_one xs cs in
    let e : map (λ (c : Column). c.sizing) ds ≡ map (λ (c : Column). c.sizing) cols = grown_sizing (grown_each_of 1 raise_one grown_one xs cs) ∙ fresh_sizing cols in
    keeps_spans M (raise_span q) top 2 xs (spans_keep M q xs h) (map held ds)
    (held_keeps M ds (keeps_each_of M 1 raise_one xs (ones_keep M xs h) cs (fresh_bounded M cols one)) (subst (AllByRecursion (λ z. fixed_at z ≤ M)) (sym e) f))

-- The walk over the cells, span by span, is the pass that the rules say.
-- Assumes nothing.
use Rattle.std.proofs.Common.{◌≡◌, ℕ, zero, suc, ◌+◌, ◌-◌, ◌<◌, ◌≤◌, eqb, List, [], ◌∷◌, ◌++◌, map, length, take, drop, sym, refl, ap, ◌∙◌, subst, inl, inr, arith}
use Rattle.std.specs.List.{AllByRecursion}
use Rattle.std.proofs.lemmas.List.{length-take-le, length-drop, length-map}
use Rattle.std.proofs.lemmas.Bool.{cond-true, cond-false, cases_eq, cond_both, eq-eqb, ne_eqb}
use Rattle.plan.specs.declared.record.Cell.{Cell}
use Rattle.plan.specs.declared.record.Column.{Column}
use Rattle.columns.specs.Columns.{over, raised_to, raise_one, raise_span, meet_minimum, meet_maximum, each_of, spans, pass, columns_of, fresh, held}
use Rattle.columns.specs.Wants.{Want}
use Rattle.columns.specs.Laws.{Fits}
use Rattle.columns.proofs.Grown.{grown_length, grown_one, grown_span, grown_each_of}
use Rattle.measure.specs.declared.ask.Ask.{Ask}
use Rattle.measure.specs.declared.column.Bound.TheVariants.{Least, Greatest}
use Rattle.measure.specs.Bounds.{meet}
use Rattle.measure.proofs.Lift.{asks_fit}
use Rattle.measure.specs.Asks.{asks_in, want_of, wants, lifted, step}

over_same : (f g : List Column → List Column) (i k : ℕ) (cs : List Column) → f (take k (drop i cs)) ≡ g (take k (drop i cs)) → over f i k cs ≡ over g i k cs
unfolding over
over_same f g zero k cs e = ap (λ ds. ds ++ drop k cs) e
over_same f g (suc i) k [] e = refl
over_same f g (suc i) k (c ∷ cs) e = ap (λ ds. c ∷ ds) (over_same f g i k cs e)

abbrev ask_of : Want → Ask
ask_of x = record { least = x.minimum; greatest = x.maximum }

meets : (q : ℕ) (x : Want) (cs : List Column) → meet Greatest q x.span x.maximum (meet Least q x.span x.minimum cs) ≡ meet_maximum q x (meet_minimum q x cs)
unfolding meet meet_minimum meet_maximum
meets q x cs = refl

part_length : (x : Want) (cs : List Column) → x.first + x.span ≤ length cs → length (take x.span (drop x.first cs)) ≡ x.span
part_length x cs h = length-take-le x.span (drop x.first cs) (omega (arith, length-drop x.first cs))

module _ (q : ℕ) where
  step_one : (x : Want) (cs : List Column) → x.span ≡ 1 → x.first + x.span ≤ length cs → step q x cs ≡ raise_one x cs
  step_one x cs e h =
      over_same (lifted q (ask_of x)) (map (raised_to x)) x.first x.span cs (cond-true _ _ _ (eq-eqb _ 1 (part_length x cs h ∙ e)))
      ∙ ap (λ k. over (map (raised_to x)) x.first k cs) e

  step_span : (x : Want) (cs : List Column) → (x.span ≡ 1 → ⊥) → x.first + x.span ≤ length cs → step q x cs ≡ raise_span q x cs
  step_span x cs ne h =
      let ys = take x.span (drop x.first cs) in
      let l = part_length x cs h in
      over_same (lifted q (ask_of x)) (λ ds. meet_maximum q x (meet_minimum q x ds)) x.first x.span cs
      (cond-false _ _ _ (ne_eqb _ 1 (λ e. ne (sym l ∙ e)))
      ∙ ap (λ k. meet Greatest q k x.maximum (meet Least q k x.minimum ys)) l
      ∙ meets q x ys)

-- two ways to raise the columns that agree on the cells of span s
each_as : (s : ℕ) (f g : Want → List Column → List Column) →
    ((x : Want) (cs : List Column) → x.span ≡ s → x.first + x.span ≤ length cs → f x cs ≡ g x cs) →
    ((x : Want) (cs : List Column) → length cs ≡ length (g x cs)) →
    (xs : List Want) (cs : List Column) → AllByRecursion (Fits 31 (length cs)) xs → each_of s f xs cs ≡ each_of s g xs cs
unfolding each_of
each_as s f g h k [] cs a = refl
each_as s f g h k (x ∷ xs) cs a =
    elim (cases_eq x.span s) [
      | inl e ↦
          ap (λ ds. each_of s f xs ds) (cond-true (eqb x.span s) _ _ (eq-eqb x.span s e) ∙ h x cs e a.0.2)
          ∙ each_as s f g h k xs (g x cs) (subst (λ n. AllByRecursion (Fits 31 n) xs) (k x cs) a.1)
          ∙ sym (ap (λ ds. each_of s g xs ds) (cond-true (eqb x.span s) _ _ (eq-eqb x.span s e)))
      | inr e ↦
          ap (λ ds. each_of s f xs ds) (cond-false (eqb x.span s) _ _ (ne_eqb x.span s e))
          ∙ each_as s f g h k xs cs a.1
          ∙ sym (ap (λ ds. each_of s g xs ds) (cond-false (eqb x.span s) _ _ (ne_eqb x.span s e)))
    ]

module _ (q : ℕ) where
  pub ones_as : (xs : List Want) (cs : List Column) → AllByRecursion (Fits 31 (length cs)) xs → each_of 1 (step q) xs cs ≡ each_of 1 raise_one xs cs
  ones_as xs cs a = each_as 1 (step q) raise_one (step_one q) (λ x ds. grown_length (grown_one x ds)) xs cs a

  pub spans_as : (n s : ℕ) (xs : List Want) (cs : List Column) → 2 ≤ s → AllByRecursion (Fits 31 (length cs)) xs → spans (step q) n s xs cs ≡ spans (raise_span q) n s xs cs
  unfolding spans
  spans_as zero s xs cs two a = refl
  spans_as (suc n) s xs cs two a =
      let e = each_as s (step q) (raise_span q) (λ x ds is h. step_span q x ds (λ one. absurd (omega arith)) h) (λ x ds. grown_length (grown_span q x ds)) xs cs a in
      let l = grown_length (grown_each_of s (raise_span q) (grown_span q) xs cs) in
      ap (λ ds. spans (step q) n (suc s) xs ds) e ∙ spans_as n (suc s) xs (each_of s (raise_span q) xs cs) (omega arith) (subst (λ m. AllByRecursion (Fits 31 m) xs) l a)

-- the cells that ask lie in the columns
pub wants_fit : (t n : ℕ) (cs : List Cell) (as' : List Ask) → AllByRecursion (Fits 31 n) (wants t n cs as')
wants_fit t n [] as' = _
wants_fit t n (c ∷ cs) [] = _
wants_fit t n (c ∷ cs) (a ∷ as') =
    cond_both (asks_in t n c) (want_of c a ∷ wants t n cs as') (wants t n cs as') (AllByRecursion (Fits 31 n))
    (λ is. (asks_fit t n c is, wants_fit t n cs as'))
    (λ not. wants_fit t n cs as')

-- one more span is done
pub span_more : (f : Want → List Column → List Column) (s : ℕ) (xs : List Want) (cs ds T : List Column) → s < 33 → ds ≡ each_of s f xs cs →
    spans f (33 - s) s xs cs ≡ T → spans f (33 - (s + 1)) (s + 1) xs ds ≡ T
unfolding spans
span_more f s xs cs ds T h e inv =
    let k : 33 - s ≡ suc (33 - (s + 1)) = omega arith in
    let m : s + 1 ≡ suc s = omega arith in
    ap (λ es. spans f (33 - (s + 1)) (s + 1) xs es) e
    ∙ ap (λ j. spans f (33 - (s + 1)) j xs (each_of s f xs cs)) m
    ∙ sym (ap (λ j. spans f j s xs cs) k)
    ∙ inv

pub span_none : (f : Want → List Column → List Column) (s : ℕ) (xs : List Want) (cs T : List Column) → 33 ≤ s → spans f (33 - s) s xs cs ≡ T → cs ≡ T
unfolding spans
span_none f s xs cs T h inv = let k : 33 - s ≡ 0 = omega arith in sym (ap (λ j. spans f j s xs cs) k) ∙ inv

-- the four walks are the pass
pub walks_are_pass : (q t : ℕ) (cells : List Cell) (asks : List Ask) (cs es fs gs hs : List Column) →
    es ≡ map fresh cs → fs ≡ each_of 1 (step q) (wants t (length es) cells asks) es → gs ≡ map held fs →
    hs ≡ spans (step q) 31 2 (wants t (length gs) cells asks) gs →
    hs ≡ columns_of q cs (wants t (length cs) cells asks)
unfolding pass
walks_are_pass q t cells asks cs es fs gs hs ee ef eg eh =
    let at : ℕ → List Want = λ n. wants t n cells asks in
    let xs = at (length cs) in
    let le = ap length ee ∙ length-map cs fresh in
    let fit : (n : ℕ) → n ≡ length cs → AllByRecursion (Fits 31 n) xs = λ n e. subst (λ m. AllByRecursion (Fits 31 m) xs) (sym e) (wants_fit t (length cs) cells asks) in
    let ones = ef ∙ ap (λ n. each_of 1 (step q) (at n) es) le ∙ ones_as q xs es (fit (length es) le) in
    let lf = ap length ones ∙ sym (grown_length (grown_each_of 1 raise_one grown_one xs es)) ∙ le in
    let lg = ap length eg ∙ length-map fs held ∙ lf in
    eh
    ∙ ap (λ n. spans (step q) 31 2 (at n) gs) lg
    ∙ spans_as q 31 2 xs gs (omega arith) (fit (length gs) lg)
    ∙ ap (λ ds. spans (raise_span q) 31 2 xs ds) (eg ∙ ap (map held) (ones ∙ ap (λ ds. each_of 1 raise_one xs ds) ee))

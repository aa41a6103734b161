-- The column pass only ever raises the leasts.
use Rattle.std.proofs.Common.{◌≡◌, ℕ, zero, suc, ◌≤◌, eqb, List, [], ◌∷◌, ◌++◌, map, length, take, drop, sym, refl, ap, ◌∙◌, subst, ap₂, le_refl, arith}
use Rattle.std.proofs.lemmas.List.{take-append-drop}
use Rattle.std.proofs.lemmas.Bool.{cond_both}
use Rattle.share.specs.Share.{total}
use Rattle.plan.specs.declared.record.Column.{Column}
use Rattle.columns.specs.Wants.{Want}
use Rattle.columns.specs.Columns.{leasts, free, over, raised_to, raise_one, held, with_parts, more_least, more_greatest, meet_minimum, meet_maximum, raise_span, each_of, spans}
use Rattle.columns.specs.Laws.{Served}

-- as many columns, and none with a smaller least
pub data Grown : List Column → List Column → Type 0 where
  none : Grown [] []
  more : {c d : Column} {cs ds : List Column} → (c.least ≤ d.least) × (c.sizing ≡ d.sizing) → Grown cs ds → Grown (c ∷ cs) (d ∷ ds)

pub grown_refl : (cs : List Column) → Grown cs cs
grown_refl [] = none
grown_refl (c ∷ cs) = more (le_refl c.least, refl) (grown_refl cs)

pub grown_trans : {cs ds es : List Column} → Grown cs ds → Grown ds es → Grown cs es
grown_trans none h = h
grown_trans (more h t) (more k u) = more (omega (arith, h.0, k.0), h.1 ∙ k.1) (grown_trans t u)

pub grown_append : {cs ds es fs : List Column} → Grown cs ds → Grown es fs → Grown (cs ++ es) (ds ++ fs)
grown_append none g = g
grown_append (more h t) g = more h (grown_append t g)

pub grown_length : {cs ds : List Column} → Grown cs ds → length cs ≡ length ds
grown_length none = refl
grown_length (more h t) = ap suc (grown_length t)

pub grown_drop : (i : ℕ) {cs ds : List Column} → Grown cs ds → Grown (drop i cs) (drop i ds)
grown_drop zero g = g
grown_drop (suc i) none = none
grown_drop (suc i) (more h t) = grown_drop i t

pub grown_take : (k : ℕ) {cs ds : List Column} → Grown cs ds → Grown (take k cs) (take k ds)
grown_take zero g = none
grown_take (suc k) none = none
grown_take (suc k) (more h t) = more h (grown_take k t)

pub grown_total : {cs ds : List Column} → Grown cs ds → total (leasts cs) ≤ total (leasts ds)
grown_total none = le_refl 0
grown_total (more h t) = omega (arith, grown_total t)

pub grown_sizing : {cs ds : List Column} → Grown cs ds → map (λ c. c.sizing) ds ≡ map (λ c. c.sizing) cs
grown_sizing none = refl
grown_sizing (more h t) = ap₂ (λ x xs. x ∷ xs) (sym h.1) (grown_sizing t)

-- what serves a cell still does after growth
pub still_served : (q : ℕ) (x : Want) {cs ds : List Column} → Grown cs ds → Served q cs x → Served q ds x
still_served q x g h = omega (arith, grown_total (grown_take x.span (grown_drop x.first g)))

-- each step of the pass grows the columns

grown_over : (f : List Column → List Column) → ((ys : List Column) → Grown ys (f ys)) → (i k : ℕ) (xs : List Column) → Grown xs (over f i k xs)
unfolding over
grown_over f h zero k xs =
    subst (λ zs. Grown zs (f (take k xs) ++ drop k xs)) (take-append-drop k xs) (grown_append (h (take k xs)) (grown_refl (drop k xs)))
grown_over f h (suc i) k [] = none
grown_over f h (suc i) k (x ∷ xs) = more (le_refl x.least, refl) (grown_over f h i k xs)

grown_map : (f : Column → Column) → ((c : Column) → (c.least ≤ (f c).least) × (c.sizing ≡ (f c).sizing)) → (cs : List Column) → Grown cs (map f cs)
grown_map f h [] = none
grown_map f h (c ∷ cs) = more (h c) (grown_map f h cs)

grown_with : (f : ℕ → Column → Column) → ((p : ℕ) (c : Column) → (c.least ≤ (f p c).least) × (c.sizing ≡ (f p c).sizing)) → (ps : List ℕ) (cs : List Column) → Grown cs (with_parts f ps cs)
unfolding with_parts
grown_with f h [] cs = grown_refl cs
grown_with f h (p ∷ ps) [] = none
grown_with f h (p ∷ ps) (c ∷ cs) = more (h p c) (grown_with f h ps cs)

pub grown_one : (x : Want) (cs : List Column) → Grown cs (raise_one x cs)
grown_one x cs = grown_over (map (raised_to x)) (grown_map (raised_to x) (λ c. (omega arith, refl))) x.first 1 cs

pub grown_meet : (q : ℕ) (x : Want) (cs : List Column) → Grown cs (meet_maximum q x (meet_minimum q x cs))
unfolding meet_maximum meet_minimum
grown_meet q x cs =
    grown_trans (grown_with more_least (λ p c. (omega arith, refl)) _ cs) (grown_with more_greatest (λ p c. (omega arith, refl)) _ _)

pub grown_span : (q : ℕ) (x : Want) (cs : List Column) → Grown cs (raise_span q x cs)
grown_span q x cs = grown_over _ (grown_meet q x) x.first x.span cs

pub grown_held : (cs : List Column) → Grown cs (map held cs)
grown_held cs = grown_map held (λ c. cond_both (free c) _ _ (λ (d : Column). (c.least ≤ d.least) × (c.sizing ≡ d.sizing)) (λ e. (le_refl c.least, refl)) (λ e. (omega arith, refl))) cs

pub grown_each_of : (s : ℕ) (f : Want → List Column → List Column) → ((x : Want) (cs : List Column) → Grown cs (f x cs)) →
    (xs : List Want) (cs : List Column) → Grown cs (each_of s f xs cs)
unfolding each_of
grown_each_of s f h [] cs = grown_refl cs
grown_each_of s f h (x ∷ xs) cs =
    grown_trans (cond_both (eqb x.span s) (f x cs) cs (Grown cs) (λ e. h x cs) (λ e. grown_refl cs)) (grown_each_of s f h xs _)

pub grown_spans : (q n s : ℕ) (xs : List Want) (cs : List Column) → Grown cs (spans (raise_span q) n s xs cs)
unfolding spans
grown_spans q zero s xs cs = grown_refl cs
grown_spans q (suc n) s xs cs = grown_trans (grown_each_of s (raise_span q) (grown_span q) xs cs) (grown_spans q n (suc s) xs _)

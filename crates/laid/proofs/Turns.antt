-- For the proofs of code: a pass as a loop that sets one member at a time, and that may stop at the first refusal.
use Rattle.std.proofs.Common.{◌≡◌, ℕ, zero, suc, ◌+◌, ◌<◌, ◌≤◌, Bool, true, false, cond, List, [], ◌∷◌, set, Some, None, sym, refl, ap, ◌∙◌, ap₂, inl, inr, arith}
use Rattle.std.specs.List.{slice_get}
use Rattle.std.proofs.lemmas.Bool.{cond-true, cond-false, cases_eq}
use Rattle.plan.specs.declared.record.Table.{Table}
use Rattle.laid.specs.Layout.{alter, down, up, highest, or_else}
use Rattle.laid.proofs.Passes.{nth_alter, nth_unaltered, down_keeps, up_keeps}

-- what the code does at a turn is a `set`
pub alter_set : {X : Type 0} (xs : List X) (i : ℕ) (f : X → X) (x : X) → slice_get xs i ≡ Some x → alter i f xs ≡ set xs i (f x)
unfolding alter
alter_set [] i f x e = let z : ◌≡◌ {A = ℕ} 0 1 = cc in absurd (omega arith)
alter_set (y ∷ xs) zero f x e = let s : y ≡ x = cc in ap (λ z. f z ∷ xs) s
alter_set (y ∷ xs) (suc i) f x e = ap (λ zs. y ∷ zs) (alter_set xs i f x e)

-- a turn of the loop: the rest of the pass from here is the rest of the pass from the next state
pub down_turn : {X : Type 0} (f : List X → ℕ → X → X) (n : ℕ) (xs : List X) (x : X) → slice_get xs n ≡ Some x → down f (suc n) xs ≡ down f n (set xs n (f xs n x))
unfolding down
down_turn f n xs x e = ap (down f n) (alter_set xs n (f xs n) x e)

pub down_none : {X : Type 0} (f : List X → ℕ → X → X) (xs : List X) → down f 0 xs ≡ xs
unfolding down
down_none f xs = refl

pub up_none : {X : Type 0} (f : List X → ℕ → X → X) (i : ℕ) (xs : List X) → up f 0 i xs ≡ xs
unfolding up
up_none f i xs = refl

pub up_turn : {X : Type 0} (f : List X → ℕ → X → X) (n i : ℕ) (xs : List X) (x : X) → slice_get xs i ≡ Some x → up f (suc n) i xs ≡ up f n (suc i) (set xs i (f xs i x))
unfolding up
up_turn f n i xs x e = ap (up f n (suc i)) (alter_set xs i (f xs i) x e)

-- what a turn makes of its member is what that member is in the end, so that the laws of the end bound it
pub down_here : {X : Type 0} (f : List X → ℕ → X → X) (n : ℕ) (xs : List X) (x : X) → slice_get xs n ≡ Some x → slice_get (down f (suc n) xs) n ≡ Some (f xs n x)
unfolding down
down_here f n xs x e = down_keeps f n (alter n (f xs n) xs) n (omega arith) ∙ nth_alter xs n (f xs n) x e

pub up_here : {X : Type 0} (f : List X → ℕ → X → X) (n i : ℕ) (xs : List X) (x : X) → slice_get xs i ≡ Some x → slice_get (up f (suc n) i xs) i ≡ Some (f xs i x)
unfolding up
up_here f n i xs x e = up_keeps f n (suc i) (alter i (f xs i) xs) i (omega arith) ∙ nth_alter xs i (f xs i) x e

-- the highest table that p is true of, found on the way down

pub none_above : (p : Table → Bool) (i : ℕ) (ts : List Table) → ((u : ℕ) (d : Table) → slice_get ts u ≡ Some d → p d ≡ false) → highest p i ts ≡ None
unfolding highest
none_above p i [] h = refl
none_above p i (b ∷ ts) h =
    ap₂ or_else (none_above p (suc i) ts (λ u. h (suc u))) (cond-false (p b) (Some i) None (h 0 b refl))

pub highest_is : (p : Table → Bool) (i : ℕ) (ts : List Table) (t : ℕ) (b : Table) → slice_get ts t ≡ Some b → p b ≡ true →
    ((u : ℕ) (d : Table) → t < u → slice_get ts u ≡ Some d → p d ≡ false) → highest p i ts ≡ Some (i + t)
unfolding highest
highest_is p i [] t b e y h = let z : ◌≡◌ {A = ℕ} 0 1 = cc in absurd (omega arith)
highest_is p i (c ∷ ts) zero b e y h =
    let s : c ≡ b = cc in
    ap₂ or_else (none_above p (suc i) ts (λ u d k. h (suc u) d (omega arith) k)) (cond-true (p c) (Some i) None (ap p s ∙ y)) ∙ ap Some (omega arith)
highest_is p i (c ∷ ts) (suc t) b e y h =
    ap (λ o. or_else o (cond (p c) (Some i) None)) (highest_is p (suc i) ts t b e y (λ u d l k. h (suc u) d (omega arith) k)) ∙ ap Some (omega arith)

-- at table n, after its step: if p is true of it and of none above, the whole pass is refused there
pub stops : (p : Table → Bool) (f : List Table → ℕ → Table → Table) (n : ℕ) (xs : List Table) (b : Table) → slice_get xs n ≡ Some b → p (f xs n b) ≡ true →
    ((u : ℕ) (d : Table) → n < u → slice_get xs u ≡ Some d → p d ≡ false) → highest p 0 (down f (suc n) xs) ≡ Some n
stops p f n xs b e y h =
    let r = highest_is p 0 (down f (suc n) xs) n (f xs n b) (down_here f n xs b e) y (λ u d l k. h u d l (sym (down_keeps f (suc n) xs u l) ∙ k)) in
    r ∙ ap Some (omega arith)

-- else nothing from n on is
pub goes_on : (p : Table → Bool) (f : List Table → ℕ → Table → Table) (n : ℕ) (xs : List Table) (b : Table) → slice_get xs n ≡ Some b → p (f xs n b) ≡ false →
    ((u : ℕ) (d : Table) → n < u → slice_get xs u ≡ Some d → p d ≡ false) → (u : ℕ) (d : Table) → n ≤ u → slice_get (set xs n (f xs n b)) u ≡ Some d → p d ≡ false
goes_on p f n xs b e y h u d l k =
    let a : alter n (f xs n) xs ≡ set xs n (f xs n b) = alter_set xs n (f xs n) b e in
    let k2 : slice_get (alter n (f xs n) xs) u ≡ Some d = ap (λ zs. slice_get zs u) a ∙ k in
    elim (cases_eq u n) [
      | inl q ↦
          let m : slice_get (alter n (f xs n) xs) u ≡ Some (f xs n b) = ap (slice_get (alter n (f xs n) xs)) q ∙ nth_alter xs n (f xs n) b e in
          let s : f xs n b ≡ d = cc in
          ap p (sym s) ∙ y
      | inr q ↦ h u d (omega arith) (sym (nth_unaltered xs n (f xs n) u q) ∙ k2)
    ]

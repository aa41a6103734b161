-- After the column pass a fixed column's least and greatest are one, and at least the fixed width.
use Rattle.std.proofs.Common.{◌≡◌, ℕ, zero, suc, ◌+◌, ◌-◌, ◌*◌, ◌/◌, max, false, cond, eqb, List, [], ◌∷◌, map, take, sym, refl, add-zero, arith}
use native.Mathlib.Nat.{sub_self}
use Rattle.std.specs.List.{AllByRecursion}
use Rattle.std.proofs.ByRecursion.{All-append, All-take, All-drop}
use Rattle.std.proofs.lemmas.Bool.{cond_both, cond-false, both_ways}
use Rattle.share.specs.Share.{parts_from}
use Rattle.plan.specs.declared.record.Column.{Column}
use Rattle.columns.specs.Wants.{Want}
use Rattle.columns.specs.Columns.{free, over, held, free_weights, with_parts, more_least, more_greatest, meet_minimum, meet_maximum, raise_span, each_of, spans, pass}
use Rattle.columns.specs.Laws.{Settled}

abbrev Keeps : (List Column → List Column) → Type 0
Keeps f = (cs : List Column) → AllByRecursion Settled cs → AllByRecursion Settled (f cs)

pub keeps_over : (f : List Column → List Column) → Keeps f → (i k : ℕ) → Keeps (over f i k)
unfolding over
keeps_over f h zero k xs o = All-append Settled _ _ (h (take k xs) (All-take Settled k xs o)) (All-drop Settled k xs o)
keeps_over f h (suc i) k [] o = tt
keeps_over f h (suc i) k (x ∷ xs) o = (o.0, keeps_over f h i k xs o.1)

keeps_least : (ps : List ℕ) → Keeps (with_parts more_least ps)
unfolding with_parts
keeps_least [] cs o = o
keeps_least (p ∷ ps) [] o = tt
keeps_least (p ∷ ps) (c ∷ cs) o = (
  (λ e. (sym (cond-false (free c) (max c.greatest (c.least + p)) (c.least + p) e), omega (arith, o.0 e))),
  keeps_least ps cs o.1,
)

-- a fixed column's part is 0
no_part : (W D b : ℕ) (c : Column) → free c ≡ false → W * (b + cond (free c) 1 0) / D - W * b / D ≡ 0
no_part W D b c e = rw (cond-false {A = ℕ} (free c) 1 0 e, add-zero) (sub_self (W * b / D))

keeps_greatest : (W D b : ℕ) (cs : List Column) → AllByRecursion Settled cs → AllByRecursion Settled (with_parts more_greatest (parts_from W D b (free_weights cs)) cs)
unfolding with_parts parts_from
keeps_greatest W D b [] o = tt
keeps_greatest W D b (c ∷ cs) o = (
  (λ e. omega (arith, o.0 e, no_part W D b c e)),
  keeps_greatest W D (b + cond (free c) 1 0) cs o.1,
)

pub keeps_meet : (q : ℕ) (x : Want) → Keeps (λ cs. meet_maximum q x (meet_minimum q x cs))
unfolding meet_maximum meet_minimum
keeps_meet q x cs o = keeps_greatest _ _ 0 _ (keeps_least _ cs o)

pub keeps_each_of : (q s : ℕ) (xs : List Want) → Keeps (each_of s (raise_span q) xs)
unfolding each_of
keeps_each_of q s [] cs o = o
keeps_each_of q s (x ∷ xs) cs o =
    keeps_each_of q s xs _
    (cond_both (eqb x.span s) (raise_span q x cs) cs (AllByRecursion Settled) (λ e. keeps_over _ (keeps_meet q x) x.first x.span cs o) (λ e. o))

keeps_spans : (q n s : ℕ) (xs : List Want) → Keeps (spans (raise_span q) n s xs)
unfolding spans
keeps_spans q zero s xs cs o = o
keeps_spans q (suc n) s xs cs o = keeps_spans q n (suc s) xs _ (keeps_each_of q s xs cs o)

pub held_settled : (cs : List Column) → AllByRecursion Settled (map held cs)
held_settled [] = tt
held_settled (c ∷ cs) = (
  cond_both (free c) c _ Settled (λ t f. absurd (both_ways (free c) f t)) (λ e _. (refl, omega arith)),
  held_settled cs,
)

pub fixed_are_settled : (top q : ℕ) (cols : List Column) (xs : List Want) → AllByRecursion Settled (pass top q cols xs)
unfolding pass
fixed_are_settled top q cols xs = keeps_spans q top 2 xs _ (held_settled _)

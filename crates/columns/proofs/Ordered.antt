-- After the column pass no column's least is above its greatest.
use Rattle.std.proofs.Common.{ℕ, zero, suc, ◌+◌, ◌≤◌, eqb, List, [], ◌∷◌, map, take, le_refl, arith}
use Rattle.std.specs.List.{AllByRecursion}
use Rattle.std.proofs.ByRecursion.{All-append, All-take, All-drop}
use Rattle.std.proofs.lemmas.Bool.{cond_both}
use Rattle.plan.specs.declared.record.Column.{Column}
use Rattle.columns.specs.Wants.{Want}
use Rattle.columns.specs.Columns.{free, over, fresh, raised_to, raise_one, held, with_parts, more_least, more_greatest, meet_minimum, meet_maximum, raise_span, each_of, spans, pass}
use Rattle.columns.specs.Laws.{Ordered}

-- f keeps the columns ordered
abbrev Keeps : (List Column → List Column) → Type 0
Keeps f = (cs : List Column) → AllByRecursion Ordered cs → AllByRecursion Ordered (f cs)

keeps_over : (f : List Column → List Column) → Keeps f → (i k : ℕ) → Keeps (over f i k)
unfolding over
keeps_over f h zero k xs o = All-append Ordered _ _ (h (take k xs) (All-take Ordered k xs o)) (All-drop Ordered k xs o)
keeps_over f h (suc i) k [] o = tt
keeps_over f h (suc i) k (x ∷ xs) o = (o.0, keeps_over f h i k xs o.1)

keeps_map : (f : Column → Column) → ((c : Column) → Ordered c → Ordered (f c)) → Keeps (map f)
keeps_map f h [] o = tt
keeps_map f h (c ∷ cs) o = (h c o.0, keeps_map f h cs o.1)

keeps_with : (f : ℕ → Column → Column) → ((p : ℕ) (c : Column) → Ordered c → Ordered (f p c)) → (ps : List ℕ) → Keeps (with_parts f ps)
unfolding with_parts
keeps_with f h [] cs o = o
keeps_with f h (p ∷ ps) [] o = tt
keeps_with f h (p ∷ ps) (c ∷ cs) o = (h p c o.0, keeps_with f h ps cs o.1)

keeps_meet : (q : ℕ) (x : Want) → Keeps (λ cs. meet_maximum q x (meet_minimum q x cs))
unfolding meet_maximum meet_minimum
keeps_meet q x cs o =
    keeps_with more_greatest (λ p c h. omega arith) _ _
    (keeps_with more_least
    (λ p c h. cond_both (free c) _ _ (λ g. c.least + p ≤ g) (λ e. omega arith) (λ e. le_refl (c.least + p))) _ cs o)

keeps_each_of : (s : ℕ) (f : Want → List Column → List Column) (xs : List Want) → AllByRecursion (λ x. Keeps (f x)) xs → Keeps (each_of s f xs)
unfolding each_of
keeps_each_of s f [] h cs o = o
keeps_each_of s f (x ∷ xs) h cs o =
    keeps_each_of s f xs h.1 _ (cond_both (eqb x.span s) (f x cs) cs (AllByRecursion Ordered) (λ e. h.0 cs o) (λ e. o))

keeps_spans : (q n s : ℕ) (xs : List Want) → Keeps (spans (raise_span q) n s xs)
unfolding spans
keeps_spans q zero s xs cs o = o
keeps_spans q (suc n) s xs cs o =
    keeps_spans q n (suc s) xs _ (keeps_each_of s (raise_span q) xs (each xs) cs o)
  where
    each : (ys : List Want) → AllByRecursion (λ x. Keeps (raise_span q x)) ys
    each [] = tt
    each (y ∷ ys) = (keeps_over _ (keeps_meet q y) y.first y.span, each ys)

ones_keep : (xs : List Want) → AllByRecursion (λ (x : Want). x.minimum ≤ x.maximum) xs → AllByRecursion (λ x. Keeps (raise_one x)) xs
ones_keep [] h = tt
ones_keep (x ∷ xs) h = (keeps_over _ (keeps_map (raised_to x) (λ c o. omega arith)) x.first 1, ones_keep xs h.1)

fresh_ordered : (cs : List Column) → AllByRecursion Ordered (map fresh cs)
fresh_ordered [] = tt
fresh_ordered (c ∷ cs) = (le_refl 1, fresh_ordered cs)

pub columns_are_ordered : (top q : ℕ) (cols : List Column) (xs : List Want) → AllByRecursion (λ (x : Want). x.minimum ≤ x.maximum) xs → AllByRecursion Ordered (pass top q cols xs)
unfolding pass
columns_are_ordered top q cols xs h =
    keeps_spans q top 2 xs _
    (keeps_map held (λ c o. cond_both (free c) _ _ Ordered (λ e. o) (λ e. le_refl _)) _
    (keeps_each_of 1 raise_one xs (ones_keep xs h) _ (fresh_ordered cols)))

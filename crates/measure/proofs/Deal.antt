-- A share over columns, one after another.
-- Assumes nothing.
use Rattle.std.proofs.Common.{◌≡◌, ℕ, ◌+◌, ◌-◌, ◌*◌, ◌/◌, ◌<◌, ◌≤◌, Bool, true, false, List, [], ◌∷◌, ◌++◌, map, length, get_or, take, drop, set, refl, sym, ap, ◌∙◌, zero-add, mul-le-mul_left, arith}
use native.Mathlib.Nat.{div-le_of_le-mul}
use Rattle.std.proofs.lemmas.List.{at_drop_more, at_drop_all, append-nil, append_assoc, take_all, take_more_set, drop-set-lt}
use Rattle.std.proofs.lemmas.Bool.{ne_eqb}
use Rattle.std.proofs.lemmas.List.Sums.{sum_by-cons}
use Rattle.std.specs.List.{sum, list_any}
use Rattle.std.specs.Prelude.{cond, not, ◌||◌, ◌==◌}
use Rattle.std.specs.Borrow.{Bor, MutBor}
use Rattle.std.specs.Fn.{Shared}
use Rattle.share.specs.Share.{total, parts, parts_from, brings}
use Rattle.share.proofs.Parts.{part_le}
use Rattle.measure.specs.Sweeps.{Reckons, TakesParts, MayDeal}
use Rattle.plan.specs.declared.record.Column.{Column}
use Rattle.plan.specs.Blank.{blank_column}
use Rattle.columns.specs.Columns.{free, free_weights, none_free, weight, with_parts, need, spreads}
use Rattle.measure.specs.declared.column.Bound.{Bound}
use Rattle.measure.specs.Bounds.{bound_of, more, all_share, meet}

-- each column with its part, where b is the sum of the weights before and D that of all
abbrev pub dealt : (Column → ℕ) → (ℕ → Column → Column) → ℕ → ℕ → ℕ → List Column → List Column
dealt w f W D b [] = []
dealt w f W D b (c ∷ cs) = f (W * (b + w c) / D - W * b / D) c ∷ dealt w f W D (b + w c) cs

pub dealt_is : (w : Column → ℕ) (f : ℕ → Column → Column) (W D b : ℕ) (cs : List Column) →
    with_parts f (parts_from W D b (map w cs)) cs ≡ dealt w f W D b cs
unfolding with_parts parts_from
dealt_is w f W D b [] = refl
dealt_is w f W D b (c ∷ cs) = ap (λ ds. f (W * (b + w c) / D - W * b / D) c ∷ ds) (dealt_is w f W D (b + w c) cs)

-- the library's sum is the same
pub total_is_sum : (xs : List ℕ) → total xs ≡ sum xs
total_is_sum [] = refl
total_is_sum (x ∷ xs) = omega (arith, total_is_sum xs, sum_by-cons (λ (y : ℕ). y) x xs)

-- no column is free where none of them is
pub none_free-any : (cs : List Column) → not (list_any free cs) ≡ none_free cs
none_free-any [] = refl
none_free-any (c ∷ cs) =
    elim (free c) as (λ b. not (b || list_any free cs) ≡ (cond b 1 0 + total (free_weights cs) == 0)) [
      | true ↦ sym (ne_eqb _ 0 (λ e. absurd (omega arith)))
      | false ↦ none_free-any cs ∙ ap (λ n. n == 0) (sym (zero-add (total (free_weights cs))))
    ]

-- a part is at most what is shared
pub part_le_whole : (W D u v : ℕ) → u ≤ D → W * u / D - v ≤ W
part_le_whole W D u v h =
    let m : W * u ≤ W * D = mul-le-mul_left W h in
    let q : W * u / D ≤ W = div-le_of_le-mul D (omega arith) in
    omega arith

-- the sum of what f says of the columns from place i on
pub sum_more : (f : Column → ℕ) (cs : List Column) (i : ℕ) → i < length cs →
    total (map f (drop i cs)) ≡ f (get_or cs i blank_column) + total (map f (drop (i + 1) cs))
sum_more f cs i h = at_drop_more (λ ds. total (map f ds)) cs i blank_column h

-- one more column is done
pub dealt_more : (w : Column → ℕ) (f : ℕ → Column → Column) (W D b : ℕ) (cs : List Column) (i v p : ℕ) (c : Column) (T : List Column) →
    i < length cs → v ≡ w (get_or cs i blank_column) → p ≡ W * (b + v) / D - W * b / D → c ≡ f p (get_or cs i blank_column) →
    take i cs ++ dealt w f W D b (drop i cs) ≡ T →
    take (i + 1) (set cs i c) ++ dealt w f W D (b + v) (drop (i + 1) (set cs i c)) ≡ T
dealt_more w f W D b cs i v p c T h ev ep ec e =
    let lt : i < i + 1 = omega arith in
    let t = take_more_set cs i c h in
    let d = drop-set-lt (i + 1) cs i c lt in
    let s = at_drop_more (dealt w f W D b) cs i blank_column h in
    let a = append_assoc (take i cs) (c ∷ []) (dealt w f W D (b + v) (drop (i + 1) cs)) in
    cc

-- all are done
pub dealt_all : (w : Column → ℕ) (f : ℕ → Column → Column) (W D b : ℕ) (cs : List Column) (i : ℕ) (T : List Column) →
    length cs ≤ i → take i cs ++ dealt w f W D b (drop i cs) ≡ T → cs ≡ T
dealt_all w f W D b cs i T h e =
    let t = take_all i cs h in
    let s = at_drop_all (dealt w f W D b) cs i h in
    let a = append-nil cs in
    cc

-- what the code reckons is what the rule says
pub meet_from : (b : Bound) (q m : ℕ) (cs ds : List Column) (n : ℕ) (all : Bool) → n ≡ need q (length cs) m (map (bound_of b) cs) → all ≡ all_share b cs →
    ds ≡ with_parts (more b) (parts n (map (weight all) cs)) cs → ds ≡ meet b q (length cs) m cs
unfolding meet
meet_from b q m cs ds n all en el e = e ∙ ap (λ k. with_parts (more b) (parts k (map (weight all) cs)) cs) en ∙ ap (λ k. with_parts (more b) (parts (need q (length cs) m (map (bound_of b) cs)) (map (weight k) cs)) cs) el

module _ {G : Type 0} (u : Shared G (MutBor Column × (ℕ × Unit {0})) (Unit {0} × (MutBor Column × Unit {0}))) (g : G) where
  -- what shares a bound's need may be called at each part
  meet_takes : (b : Bound) → ((d : MutBor Column) (p : ℕ) → p ≤ 65535 - bound_of b d.now → u.pre g (d, (p, tt))) →
      (w : Column → ℕ) (W D k : ℕ) (cs : List Column) → k + total (map w cs) ≤ D → W ≤ 65535 - total (map (bound_of b) cs) → TakesParts u g w W D k cs
  meet_takes b may w W D k [] h fits = tt
  meet_takes b may w W D k (c ∷ cs) h fits = (
    λ small.
        let part : brings W D (k + w c) - brings W D k ≤ W = part_le_whole W D (k + w c) (W * k / D) (omega arith) in
        (omega arith, λ d is. may d _ (rw is (omega arith))),
    meet_takes b may w W D (k + w c) cs (omega arith) (omega arith),
  )

  -- what widens a column may be called at each part
  widen_takes : ((d : MutBor Column) (p : ℕ) → p ≤ d.now.greatest - d.now.least → u.pre g (d, (p, tt))) →
      (W D k : ℕ) (cs : List Column) → W ≤ D → TakesParts u g (λ c. c.greatest - c.least) W D k cs
  widen_takes may W D k [] h = tt
  widen_takes may W D k (c ∷ cs) h = (
    λ small.
        let part : brings W D (k + (c.greatest - c.least)) - brings W D k ≤ c.greatest - c.least = part_le W D k (c.greatest - c.least) h in
        (omega arith, λ d is. may d _ (rw is part)),
    widen_takes may W D (k + (c.greatest - c.least)) cs h,
  )

module _ {F G : Type 0} {s : Shared F (Bor Column × Unit {0}) ℕ} {f : F} {u : Shared G (MutBor Column × (ℕ × Unit {0})) (Unit {0} × (MutBor Column × Unit {0}))} {g : G} where
  pub meet_may : (b : Bound) (w : Column → ℕ) (W : ℕ) (cs : List Column) → Reckons s f w → W ≤ 65535 - total (map (bound_of b) cs) →
      ((d : MutBor Column) (p : ℕ) → p ≤ 65535 - bound_of b d.now → u.pre g (d, (p, tt))) → MayDeal s f u g W cs
  meet_may b w W cs weighs fits may = record { weight = w; weighs = weighs; takes = meet_takes u g b may w W _ 0 cs (omega arith) fits }

  pub widen_may : (W : ℕ) (cs : List Column) → Reckons s f (λ c. c.greatest - c.least) → W ≤ total (spreads cs) →
      ((d : MutBor Column) (p : ℕ) → p ≤ d.now.greatest - d.now.least → u.pre g (d, (p, tt))) → MayDeal s f u g W cs
  widen_may W cs weighs fits may = record { weight = λ c. c.greatest - c.least; weighs = weighs; takes = widen_takes u g may W _ 0 cs fits }

-- Columns that are taken up to a row.
use Rattle.std.proofs.Common.{◌≡◌, ℕ, zero, suc, ◌+◌, ◌-◌, ◌<◌, ◌≤◌, List, length, get_or, set, replicate, refl, sym, ap, ◌∙◌, inl, inr, arith, drop, length-drop, length-take-le, length-set, get_or-set_other, get_or-set_same}
use Rattle.std.proofs.lemmas.List.{length-replicate}
use Rattle.std.proofs.lemmas.List.Edits.{fill_from_more}
use Rattle.std.proofs.lemmas.Slice.{put_mid-paste}
use borrow.Rule.Slice.PartMut.{mid_of, put_mid}
use lib.Seq.{paste, paste-zero}
use Rattle.std.proofs.lemmas.Bool.{cases_eq}
use Rattle.plan.specs.Taken.{raised}

pub length_raised : (xs : List ℕ) (j n v : ℕ) → length (raised xs j n v) ≡ length xs
length_raised xs j zero v = refl
length_raised xs j (suc n) v = length-set (raised xs j n v) (j + n) v ∙ length_raised xs j n v

pub raised_in : (xs : List ℕ) (j n v k : ℕ) → j ≤ k → k < j + n → k < length xs → get_or (raised xs j n v) k 0 ≡ v
raised_in xs j zero v k a b h = omega arith
raised_in xs j (suc n) v k a b h =
    elim (cases_eq k (j + n)) [
      | inl e ↦ rw e (get_or-set_same (raised xs j n v) (j + n) v 0 (omega (arith, length_raised xs j n v)))
      | inr e ↦ get_or-set_other (raised xs j n v) (j + n) k v 0 e ∙ raised_in xs j n v k a (omega arith) h
    ]

pub raised_out : (xs : List ℕ) (j n v k : ℕ) → (j ≤ k → k < j + n → ⊥) → get_or (raised xs j n v) k 0 ≡ get_or xs k 0
raised_out xs j zero v k o = refl
raised_out xs j (suc n) v k o =
    get_or-set_other (raised xs j n v) (j + n) k v 0 (λ e. o (omega arith) (omega arith)) ∙ raised_out xs j n v k (λ a b. o a (omega arith))

raised_is : (xs : List ℕ) (j n v : ℕ) → j + n ≤ length xs → raised xs j n v ≡ paste xs j (replicate n v) n
raised_is xs j zero v h = paste-zero xs j (replicate 0 v)
raised_is xs j (suc n) v h =
    let e : n + 1 ≡ suc n = omega arith in
    ap (λ ys. set ys (j + n) v) (raised_is xs j n v (omega arith)) ∙ fill_from_more xs j n v (omega arith) ∙
    ap (λ k. paste xs j (replicate k v) k) e

-- the columns from j to the end are filled
pub raised_filled : (xs ys : List ℕ) (j n end v : ℕ) → end ≡ j + n → j + n ≤ length xs → ys ≡ replicate (length (mid_of j (end - j) xs)) v → put_mid j (end - j) xs ys ≡ raised xs j n v
raised_filled xs ys j n end v e h f =
    let all : length (mid_of j (end - j) xs) ≡ n = length-take-le (end - j) (drop j xs) (omega (arith, length-drop j xs)) ∙ omega arith in
    put_mid-paste j (end - j) xs ys (replicate n v) n (f ∙ ap (λ m. replicate m v) all) (omega arith) (sym (length-replicate n v)) ∙ sym (raised_is xs j n v h)

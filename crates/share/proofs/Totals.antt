-- The sum of a list, and of the places before one.
use mathlib.Core.Path.{◌≡◌, refl, sym, ap}
use mathlib.Core.List.{List, [], ◌∷◌, ◌++◌}
use Prim.Native.Nat.{ℕ, zero, suc, ◌+◌, ◌<◌, ◌≤◌}
use native.Mathlib.Nat.{zero-add, le_refl}
use native.Mathlib.Numerals.{add-one}
use native.Mathlib.Omega.{arith}
use lib.ListN.{length, get_or}
use Rattle.share.specs.Share.{total, upto}

pub upto_suc : (ws : List ℕ) (i : ℕ) → i < length ws → upto ws (suc i) ≡ upto ws i + get_or ws i 0
upto_suc [] i h = omega arith
upto_suc (w ∷ ws) zero h = omega arith
upto_suc (w ∷ ws) (suc i) h = omega (arith, upto_suc ws i (omega arith))

pub upto_more : (ws : List ℕ) (i : ℕ) → i < length ws → upto ws (i + 1) ≡ upto ws i + get_or ws i 0
upto_more ws i h = rw add-one (upto_suc ws i h)

pub upto_le : (ws : List ℕ) (i : ℕ) → upto ws i ≤ total ws
upto_le [] zero = le_refl 0
upto_le [] (suc i) = le_refl 0
upto_le (w ∷ ws) zero = omega arith
upto_le (w ∷ ws) (suc i) = omega (arith, upto_le ws i)

pub upto_all : (ws : List ℕ) (i : ℕ) → length ws ≤ i → upto ws i ≡ total ws
upto_all [] zero h = refl
upto_all [] (suc i) h = refl
upto_all (w ∷ ws) zero h = omega arith
upto_all (w ∷ ws) (suc i) h = ap (λ n. w + n) (upto_all ws i (omega arith))

pub total_++ : (xs ys : List ℕ) → total (xs ++ ys) ≡ total xs + total ys
total_++ [] ys = sym (zero-add (total ys))
total_++ (x ∷ xs) ys = omega (arith, total_++ xs ys)

-- The laws of the share rule.
use mathlib.Core.Path.{◌≡◌, refl, ◌∙◌, ap}
use mathlib.Core.List.{List, [], ◌∷◌}
use Prim.Native.Nat.{ℕ, zero, suc, ◌+◌, ◌-◌, ◌*◌, ◌/◌, ◌<◌, ◌≤◌}
use native.Mathlib.Nat.{add-zero, zero-add, add_assoc, mul-add, add-mul, le_refl, le_trans, zero-lt-suc, mul-le-mul_left, mul-le-mul_right, div-mul-le_self, lt-div-mul-add, lt_of_mul-lt-mul_right, le-div_iff_mul-le, zero-div, div-zero, mul-zero, mul-div_cancel}
use native.Mathlib.Omega.{arith}
use lib.ListN.{length, get_or, take, drop}
use Rattle.share.specs.Share.{total, upto, part, parts_from, parts, stretch}
use Rattle.share.specs.Laws.{SharesAreFair}

-- a quotient does not fall where the numerator rises
pub div_mono : (D : ℕ) {a b : ℕ} → a ≤ b → a / D ≤ b / D
div_mono zero {a} {b} h = simp div-zero (le_refl 0)
div_mono (suc D) {a} {b} h = (le-div_iff_mul-le (zero-lt-suc D)).1 (le_trans (div-mul-le_self a (suc D)) h)

-- the parts telescope
pub telescope : (W D b : ℕ) (ws : List ℕ) → total (parts_from W D b ws) + W * b / D ≡ W * (b + total ws) / D
unfolding parts_from
telescope W D b [] = rw (zero-add, add-zero)
telescope W D b (w ∷ ws) =
    let m : W * b / D ≤ W * (b + w) / D = div_mono D (mul-le-mul_left W (omega arith)) in
    omega (arith, telescope W D (b + w) ws, ap (λ n. W * n / D) (add_assoc b w (total ws)))

pub parts_length : (W D b : ℕ) (ws : List ℕ) → length (parts_from W D b ws) ≡ length ws
unfolding parts_from
parts_length W D b [] = refl
parts_length W D b (w ∷ ws) = ap suc (parts_length W D (b + w) ws)

-- the first parts are the parts of the first weights, and so at the end
pub parts_take : (W D b k : ℕ) (ws : List ℕ) → take k (parts_from W D b ws) ≡ parts_from W D b (take k ws)
unfolding parts_from
parts_take W D b zero ws = refl
parts_take W D b (suc k) [] = refl
parts_take W D b (suc k) (w ∷ ws) = cc (parts_take W D (b + w) k ws)

pub parts_drop : (W D b i : ℕ) (ws : List ℕ) → drop i (parts_from W D b ws) ≡ parts_from W D (b + total (take i ws)) (drop i ws)
unfolding parts_from
parts_drop W D b zero ws = rw add-zero
parts_drop W D b (suc i) [] = refl
parts_drop W D b (suc i) (w ∷ ws) =
    parts_drop W D (b + w) i ws ∙ ap (λ n. parts_from W D n (drop i ws)) (add_assoc b w (total (take i ws)))

pub parts_at : (W D b : ℕ) (ws : List ℕ) (j : ℕ) → j < length ws →
    get_or (parts_from W D b ws) j 0 ≡ W * (b + upto ws (suc j)) / D - W * (b + upto ws j) / D
unfolding parts_from
parts_at W D b [] j h = omega arith
parts_at W D b (w ∷ ws) zero h = simp add-zero
parts_at W D b (w ∷ ws) (suc j) h = simp add_assoc at (parts_at W D (b + w) ws j (omega arith))

-- the floor of a stretch is off its exact share by less than 1
pub floors : (W D b s p : ℕ) → 0 < D → p + W * b / D ≡ W * (b + s) / D → (p * D < W * s + D) × (W * s < p * D + D)
floors W D b s p h e =
    let lo = div-mul-le_self (W * b) D in
    let hi = lt-div-mul-add {a = W * b} h in
    let lo' = div-mul-le_self (W * (b + s)) D in
    let hi' = lt-div-mul-add {a = W * (b + s)} h in
    let f = ap (λ n. n * D) e in
    let g = add-mul p (W * b / D) D in
    let x = mul-add W b s in
    omega arith

-- with W at most D a part is at most its weight
part_le' : (W D b w : ℕ) → 0 < D → W ≤ D → W * (b + w) / D - W * b / D ≤ w
part_le' W D b w d h =
    let hi = lt-div-mul-add {a = W * b} d in
    let lo = div-mul-le_self (W * (b + w)) D in
    let x = mul-add W b w in
    let y : W * w ≤ D * w = mul-le-mul_right w h in
    let u = add-mul (W * b / D) (w + 1) D in
    let v = add-mul w 1 D in
    let z : W * (b + w) / D < W * b / D + (w + 1) = lt_of_mul-lt-mul_right D (omega arith) in
    omega arith

pub part_le : (W D b w : ℕ) → W ≤ D → W * (b + w) / D - W * b / D ≤ w
part_le W zero b w h = simp div-zero (omega arith)
part_le W (suc d) b w h = part_le' W (suc d) b w (zero-lt-suc d) h

parts_le : (W D b : ℕ) (ws : List ℕ) → W ≤ D → (j : ℕ) → get_or (parts_from W D b ws) j 0 ≤ get_or ws j 0
unfolding parts_from
parts_le W D b [] h j = le_refl 0
parts_le W D b (w ∷ ws) h zero = part_le W D b w h
parts_le W D b (w ∷ ws) h (suc j) = parts_le W D (b + w) ws h j

-- every share is fair

pub part_each : (W : ℕ) (ws : List ℕ) (j : ℕ) → j < length ws → get_or (parts W ws) j 0 ≡ part W ws j
part_each W ws j h = simp zero-add at (parts_at W (total ws) 0 ws j h)

pub parts_whole : (W : ℕ) (ws : List ℕ) → 0 < total ws → total (parts W ws) ≡ W
parts_whole W ws h =
    let D : ℕ = total ws in
    let t : total (parts W ws) + W * 0 / D ≡ W * (0 + D) / D = telescope W D 0 ws in
    let z : W * 0 / D ≡ 0 = rw (mul-zero, zero-div) in
    let f : W * (0 + D) / D ≡ W = rw zero-add (mul-div_cancel W h) in
    omega arith

stretches : (W : ℕ) (ws : List ℕ) → 0 < total ws → (i k : ℕ) → (stretch i k (parts W ws) * total ws < W * stretch i k ws + total ws) × (W * stretch i k ws < stretch i k (parts W ws) * total ws + total ws)
stretches W ws h i k =
    let D : ℕ = total ws in
    let b : ℕ = 0 + total (take i ws) in
    let e : take k (drop i (parts W ws)) ≡ parts_from W D b (take k (drop i ws)) = ap (take k) (parts_drop W D 0 i ws) ∙ parts_take W D b k (drop i ws) in
    let t : stretch i k (parts W ws) + W * b / D ≡ W * (b + stretch i k ws) / D = rw e (telescope W D b (take k (drop i ws))) in
    floors W D b (stretch i k ws) (stretch i k (parts W ws)) h t

pub shares_are_fair : SharesAreFair
shares_are_fair W ws = record {
  many = parts_length W (total ws) 0 ws;
  each = part_each W ws;
  whole = parts_whole W ws;
  within = parts_le W (total ws) 0 ws;
  above = λ h i k. (stretches W ws h i k).0;
  below = λ h i k. (stretches W ws h i k).1;
}

-- Where tracks begin and end, and that larger tracks make larger stretches.
use Rattle.std.proofs.Common.{◌≡◌, ℕ, zero, suc, ◌+◌, ◌-◌, ◌*◌, ◌<◌, ◌≤◌, List, [], ◌∷◌, length, get_or, drop, refl, ap, inl, inr, le_refl, mul_comm, mul-le-mul_left, zero-add, mul-add, arith, get_or-drop}
use Rattle.std.proofs.lemmas.Bool.{cases_lt}
use Rattle.share.specs.Share.{upto, stretch}
use Rattle.share.proofs.Totals.{upto_le}
use Rattle.columns.specs.Tracks.{begins, extent, whole}

upto_split : (ws : List ℕ) (j k s : ℕ) → s ≡ j + k → upto ws j + stretch j k ws ≡ upto ws s
upto_split ws zero k s e = rw zero-add (ap (upto ws) (omega arith))
upto_split [] (suc j) zero zero e = refl
upto_split [] (suc j) zero (suc s) e = refl
upto_split [] (suc j) (suc k) zero e = refl
upto_split [] (suc j) (suc k) (suc s) e = refl
upto_split (w ∷ ws) (suc j) k zero e = omega arith
upto_split (w ∷ ws) (suc j) k (suc s) e = omega (arith, upto_split ws j k s (omega arith))

upto_mono : (ws : List ℕ) (i j : ℕ) → i ≤ j → upto ws i ≤ upto ws j
upto_mono ws i j l = omega (arith, upto_split ws i (j - i) j (omega arith))

-- the spacings before k tracks from track j on, and between them
spaces : (q j k : ℕ) → 1 ≤ k → q * (j + 1) + (k - 1) * q ≡ q * (j + k)
spaces q j k h =
    let a = mul_comm (k - 1) q in
    let b = mul-add q (j + 1) (k - 1) in
    let e : j + 1 + (k - 1) ≡ j + k = omega arith in
    let c : q * (j + 1 + (k - 1)) ≡ q * (j + k) = ap (λ n. q * n) e in
    omega arith

-- tracks that come before others end before those begin
ends_before : (q : ℕ) (ws : List ℕ) (j k i : ℕ) → 1 ≤ k → j + k ≤ i → begins q ws j + extent q ws j k ≤ begins q ws i
unfolding begins extent
ends_before q ws j k i h l =
    let s = spaces q j k h in
    let t = upto_split ws j k (j + k) refl in
    let u = upto_mono ws (j + k) i l in
    let v : q * (j + k) ≤ q * (i + 1) = mul-le-mul_left q (omega arith) in
    omega arith

-- so a track that begins by place x comes no later than tracks that end after it, all p from the edge
pub begun_before : (q : ℕ) (ws : List ℕ) (p x j k i : ℕ) → 1 ≤ k → x < p + begins q ws j + extent q ws j k → p + begins q ws i ≤ x → i < j + k
begun_before q ws p x j k i h l n =
    elim (cases_lt i (j + k)) [ inl y ↦ y | inr y ↦ absurd (omega (arith, ends_before q ws j k i h y)) ]

-- and all end before the table does
pub ends_within : (q : ℕ) (ws : List ℕ) (j k : ℕ) → 1 ≤ k → j + k ≤ length ws → begins q ws j + extent q ws j k ≤ whole q ws
unfolding begins extent whole
ends_within q ws j k h l =
    let s = spaces q j k h in
    let t = upto_split ws j k (j + k) refl in
    let u = upto_le ws (j + k) in
    let v : q * (j + k) ≤ q * (length ws + 1) = mul-le-mul_left q (omega arith) in
    omega arith

upto_none : (n : ℕ) → upto [] n ≡ 0
upto_none zero = refl
upto_none (suc n) = refl

upto_larger : (k : ℕ) (xs ys : List ℕ) → ((j : ℕ) → get_or xs j 0 ≤ get_or ys j 0) → upto xs k ≤ upto ys k
upto_larger zero xs ys h = le_refl 0
upto_larger (suc k) [] ys h = omega arith
upto_larger (suc k) (x ∷ xs) [] h = omega (arith, h 0, upto_larger k xs [] (λ j. h (suc j)), upto_none k)
upto_larger (suc k) (x ∷ xs) (y ∷ ys) h = omega (arith, h 0, upto_larger k xs ys (λ j. h (suc j)))

-- no track smaller, no stretch smaller
pub stretch_larger : (i k : ℕ) (xs ys : List ℕ) → ((j : ℕ) → get_or xs j 0 ≤ get_or ys j 0) → stretch i k xs ≤ stretch i k ys
stretch_larger i k xs ys h = upto_larger k (drop i xs) (drop i ys) (λ j. omega (arith, get_or-drop i xs j 0, get_or-drop i ys j 0, h (i + j)))

-- The laws of the offer.
use Rattle.std.proofs.Common.{◌≡◌, ℕ, zero, suc, ◌+◌, ◌-◌, ◌*◌, ◌<◌, ◌≤◌, cond, leb, List, [], ◌∷◌, length, get_or, take, sym, refl, ap, ◌∙◌, ap₂, inl, inr, le_of_eq, le_refl, mul_comm, zero-add, zero-mul, arith}
use native.Mathlib.Nat.{sub_self}
use Rattle.std.specs.List.{AllByRecursion}
use Rattle.std.proofs.lemmas.List.{length-map}
use Rattle.std.proofs.lemmas.Bool.{cases_lt, cond-true, le-leb, cond_both, leb-true, leb-false}
use Rattle.share.specs.Share.{total, parts, stretch}
use Rattle.share.proofs.Parts.{shares_are_fair}
use Rattle.plan.specs.declared.record.Column.{Column}
use Rattle.columns.specs.Columns.{leasts, greatests, spreads, sums, widths_of, least_width, greatest_width, around}
use Rattle.columns.specs.Laws.{Ordered}

total_sums : (xs ys : List ℕ) → length xs ≡ length ys → total (sums xs ys) ≡ total xs + total ys
unfolding sums
total_sums [] ys h = sym (zero-add (total ys))
total_sums (x ∷ xs) [] h = omega arith
total_sums (x ∷ xs) (y ∷ ys) h = omega (arith, total_sums xs ys (omega arith))

getD_sums : (xs ys : List ℕ) → length xs ≡ length ys → (j : ℕ) → get_or (sums xs ys) j 0 ≡ get_or xs j 0 + get_or ys j 0
unfolding sums
getD_sums [] ys h j = sym (zero-add (get_or ys j 0))
getD_sums (x ∷ xs) [] h j = omega arith
getD_sums (x ∷ xs) (y ∷ ys) h zero = refl
getD_sums (x ∷ xs) (y ∷ ys) h (suc j) = getD_sums xs ys (omega arith) j

total_spreads : (cs : List Column) → AllByRecursion Ordered cs → total (leasts cs) + total (spreads cs) ≡ total (greatests cs)
total_spreads [] o = refl
total_spreads (c ∷ cs) o = omega (arith, total_spreads cs o.1)

getD_spreads : (cs : List Column) → AllByRecursion Ordered cs → (j : ℕ) → get_or (leasts cs) j 0 + get_or (spreads cs) j 0 ≡ get_or (greatests cs) j 0
getD_spreads [] o j = refl
getD_spreads (c ∷ cs) o zero = omega arith
getD_spreads (c ∷ cs) o (suc j) = getD_spreads cs o.1 j

lengths : (W : ℕ) (cs : List Column) → length (leasts cs) ≡ length (parts W (spreads cs))
lengths W cs = omega (arith, (shares_are_fair W (spreads cs)).many, length-map cs (λ c. c.least), length-map cs (λ c. c.greatest - c.least))

pub offer_is_filled : (q : ℕ) (cs : List Column) (A : ℕ) → AllByRecursion Ordered cs → least_width q cs ≤ A → A ≤ greatest_width q cs → total (widths_of q cs A) + around q cs ≡ A
unfolding widths_of
offer_is_filled q cs A o lo hi =
    let L : ℕ = least_width q cs in
    let G : ℕ = greatest_width q cs in
    let W : ℕ = A - L in
    let ws : List ℕ = sums (leasts cs) (parts W (spreads cs)) in
    let P : List ℕ → Type 0 = λ xs. total xs + around q cs ≡ A in
    cond_both (leb A L) (leasts cs) (cond (leb G A) (greatests cs) ws) P
    (λ e. omega (arith, leb-true A L e))
    (λ e. cond_both (leb G A) (greatests cs) ws P
    (λ d. omega (arith, leb-true G A d))
    (λ d.
    let s : total (leasts cs) + total (spreads cs) ≡ total (greatests cs) = total_spreads cs o in
    let pos : 0 < total (spreads cs) = omega (arith, leb-false A L e, leb-false G A d) in
    omega (arith, (shares_are_fair W (spreads cs)).whole pos, total_sums (leasts cs) (parts W (spreads cs)) (lengths W cs))))

pub widths_stay_between : (q : ℕ) (cs : List Column) (A : ℕ) → AllByRecursion Ordered cs → (j : ℕ) → (get_or (leasts cs) j 0 ≤ get_or (widths_of q cs A) j 0) × (get_or (widths_of q cs A) j 0 ≤ get_or (greatests cs) j 0)
unfolding widths_of
widths_stay_between q cs A o j =
    let L : ℕ = least_width q cs in
    let G : ℕ = greatest_width q cs in
    let W : ℕ = A - L in
    let ws : List ℕ = sums (leasts cs) (parts W (spreads cs)) in
    let P : List ℕ → Type 0 = λ xs. (get_or (leasts cs) j 0 ≤ get_or xs j 0) × (get_or xs j 0 ≤ get_or (greatests cs) j 0) in
    let g = getD_spreads cs o j in
    cond_both (leb A L) (leasts cs) (cond (leb G A) (greatests cs) ws) P
    (λ e. omega arith)
    (λ e. cond_both (leb G A) (greatests cs) ws P
    (λ d. omega arith)
    (λ d.
    let s : total (leasts cs) + total (spreads cs) ≡ total (greatests cs) = total_spreads cs o in
    let less : W ≤ total (spreads cs) = omega (arith, leb-false A L e, leb-false G A d) in
    omega (arith, (shares_are_fair W (spreads cs)).within less j, getD_sums (leasts cs) (parts W (spreads cs)) (lengths W cs) j)))

more : (q : ℕ) (cs : List Column) (A : ℕ) → least_width q cs ≤ A → greatest_width q cs < A → total (widths_of q cs A) + around q cs ≤ A
unfolding widths_of
more q cs A lo l =
    let L : ℕ = least_width q cs in
    let G : ℕ = greatest_width q cs in
    let ws : List ℕ = sums (leasts cs) (parts (A - L) (spreads cs)) in
    let P : List ℕ → Type 0 = λ xs. total xs + around q cs ≤ A in
    cond_both (leb A L) (leasts cs) (cond (leb G A) (greatests cs) ws) P
    (λ e. omega arith)
    (λ e. cond_both (leb G A) (greatests cs) ws P
    (λ d. omega arith)
    (λ d. absurd (omega (arith, leb-false G A d))))

-- an offer of at least the least width is not exceeded
pub offer_not_exceeded : (q : ℕ) (cs : List Column) (A : ℕ) → AllByRecursion Ordered cs → least_width q cs ≤ A → total (widths_of q cs A) + around q cs ≤ A
offer_not_exceeded q cs A o lo =
    elim (cases_lt (greatest_width q cs) A) [
      | inl l ↦ more q cs A lo l
      | inr l ↦ le_of_eq (offer_is_filled q cs A o lo l)
    ]

length_sums : (xs ys : List ℕ) → length xs ≡ length ys → length (sums xs ys) ≡ length xs
unfolding sums
length_sums [] ys h = sym h
length_sums (x ∷ xs) [] h = sym h
length_sums (x ∷ xs) (y ∷ ys) h = ap suc (length_sums xs ys (omega arith))

pub length_widths : (q : ℕ) (cs : List Column) (A : ℕ) → length (widths_of q cs A) ≡ length cs
unfolding widths_of
length_widths q cs A =
    let L : ℕ = least_width q cs in
    let G : ℕ = greatest_width q cs in
    let W : ℕ = A - L in
    let ws : List ℕ = sums (leasts cs) (parts W (spreads cs)) in
    let P : List ℕ → Type 0 = λ xs. length xs ≡ length cs in
    cond_both (leb A L) (leasts cs) (cond (leb G A) (greatests cs) ws) P
    (λ e. length-map cs (λ c. c.least))
    (λ e. cond_both (leb G A) (greatests cs) ws P
    (λ d. length-map cs (λ c. c.greatest))
    (λ d. length_sums (leasts cs) (parts W (spreads cs)) (lengths W cs) ∙ length-map cs (λ c. c.least)))

-- only the leasts and greatests count
pub widths_by_bounds : (q : ℕ) (cs ds : List Column) (A : ℕ) → leasts cs ≡ leasts ds → greatests cs ≡ greatests ds → spreads cs ≡ spreads ds →
    length cs ≡ length ds → widths_of q cs A ≡ widths_of q ds A
unfolding widths_of
widths_by_bounds q cs ds A l g s n =
    let L : least_width q cs ≡ least_width q ds = ap₂ (λ xs k. total xs + q * (k + 1)) l n in
    let G : greatest_width q cs ≡ greatest_width q ds = ap₂ (λ xs k. total xs + q * (k + 1)) g n in
    cc

pub offer_short : (q : ℕ) (cs : List Column) (A : ℕ) → A ≤ least_width q cs → widths_of q cs A ≡ leasts cs
unfolding widths_of
offer_short q cs A h = cond-true (leb A (least_width q cs)) (leasts cs) _ (le-leb A (least_width q cs) h)

-- offered the greatest width or more, each column has its greatest
total_ordered : (cs : List Column) → AllByRecursion Ordered cs → total (leasts cs) ≤ total (greatests cs)
total_ordered [] o = le_refl 0
total_ordered (c ∷ cs) o = omega (arith, o.0, total_ordered cs o.1)

no_spread : (cs : List Column) → AllByRecursion Ordered cs → total (greatests cs) ≤ total (leasts cs) → leasts cs ≡ greatests cs
no_spread [] o h = refl
no_spread (c ∷ cs) o h =
    let t = total_ordered cs o.1 in
    let k = o.0 in
    ap₂ (λ x xs. x ∷ xs) (omega arith) (no_spread cs o.1 (omega arith))

pub offer_met : (q : ℕ) (cs : List Column) (A : ℕ) → AllByRecursion Ordered cs → greatest_width q cs ≤ A → widths_of q cs A ≡ greatests cs
unfolding widths_of
offer_met q cs A o h =
    let L : ℕ = least_width q cs in
    let G : ℕ = greatest_width q cs in
    let ws : List ℕ = sums (leasts cs) (parts (A - L) (spreads cs)) in
    let P : List ℕ → Type 0 = λ xs. xs ≡ greatests cs in
    cond_both (leb A L) (leasts cs) (cond (leb G A) (greatests cs) ws) P
    (λ e. no_spread cs o (omega (arith, leb-true A L e)))
    (λ e. cond-true (leb G A) (greatests cs) ws (le-leb G A h))

-- no stretch of neighbours grows by 1 or more than its share, or by 1 or more below it

take_sums : (k : ℕ) (xs ys : List ℕ) → length xs ≡ length ys → total (take k (sums xs ys)) ≡ total (take k xs) + total (take k ys)
unfolding sums
take_sums zero xs ys h = refl
take_sums (suc k) [] [] h = refl
take_sums (suc k) [] (y ∷ ys) h = omega arith
take_sums (suc k) (x ∷ xs) [] h = omega arith
take_sums (suc k) (x ∷ xs) (y ∷ ys) h = omega (arith, take_sums k xs ys (omega arith))

stretch_sums : (i k : ℕ) (xs ys : List ℕ) → length xs ≡ length ys → stretch i k (sums xs ys) ≡ stretch i k xs + stretch i k ys
unfolding sums
stretch_sums zero k xs ys h = take_sums k xs ys h
stretch_sums (suc i) k [] [] h = take_sums k [] [] refl
stretch_sums (suc i) k [] (y ∷ ys) h = omega arith
stretch_sums (suc i) k (x ∷ xs) [] h = omega arith
stretch_sums (suc i) k (x ∷ xs) (y ∷ ys) h = stretch_sums i k xs ys (omega arith)

greatests_sums : (cs : List Column) → AllByRecursion Ordered cs → greatests cs ≡ sums (leasts cs) (spreads cs)
unfolding sums
greatests_sums [] o = refl
greatests_sums (c ∷ cs) o = let k = o.0 in ap₂ (λ x xs. x ∷ xs) (omega arith) (greatests_sums cs o.1)

pub offer_is_fair : (q : ℕ) (cs : List Column) (A : ℕ) → AllByRecursion Ordered cs → least_width q cs ≤ A → A ≤ greatest_width q cs → 0 < total (spreads cs) → (i k : ℕ) → ((stretch i k (widths_of q cs A) - stretch i k (leasts cs)) * total (spreads cs) < (A - least_width q cs) * stretch i k (spreads cs) + total (spreads cs)) × ((A - least_width q cs) * stretch i k (spreads cs) < (stretch i k (widths_of q cs A) - stretch i k (leasts cs)) * total (spreads cs) + total (spreads cs))
unfolding widths_of
offer_is_fair q cs A o lo hi pos i k =
    let L : ℕ = least_width q cs in
    let G : ℕ = greatest_width q cs in
    let W : ℕ = A - L in
    let D : ℕ = total (spreads cs) in
    let S : ℕ = stretch i k (spreads cs) in
    let ws : List ℕ = sums (leasts cs) (parts W (spreads cs)) in
    let sp = total_spreads cs o in
    let P : List ℕ → Type 0 = λ xs.
    ((stretch i k xs - stretch i k (leasts cs)) * D < W * S + D) × (W * S < (stretch i k xs - stretch i k (leasts cs)) * D + D) in
    cond_both (leb A L) (leasts cs) (cond (leb G A) (greatests cs) ws) P
    (λ e.
    let w : W ≡ 0 = omega (arith, leb-true A L e) in
    let g : stretch i k (leasts cs) - stretch i k (leasts cs) ≡ 0 = sub_self (stretch i k (leasts cs)) in
    rw (g, w, zero-mul, zero-mul) (omega arith, omega arith))
    (λ e. cond_both (leb G A) (greatests cs) ws P
    (λ d.
    let w : W ≡ D = omega (arith, leb-true G A d) in
    let g : stretch i k (greatests cs) - stretch i k (leasts cs) ≡ S =
    omega (arith, ap (stretch i k) (greatests_sums cs o), stretch_sums i k (leasts cs) (spreads cs) (length-map cs (λ c. c.least) ∙ sym (length-map cs (λ c. c.greatest - c.least)))) in
    rw (g, w, mul_comm S D) (omega arith, omega arith))
    (λ d.
    let g : stretch i k ws - stretch i k (leasts cs) ≡ stretch i k (parts W (spreads cs)) =
    omega (arith, stretch_sums i k (leasts cs) (parts W (spreads cs)) (lengths W cs)) in
    rw g ((shares_are_fair W (spreads cs)).above pos i k, (shares_are_fair W (spreads cs)).below pos i k)))

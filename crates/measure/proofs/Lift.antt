-- What the code does to the columns of one cell, and of all cells of a span, is what the pass says.
-- Assumes nothing.
use Rattle.std.proofs.Common.{◌≡◌, ℕ, zero, suc, ◌+◌, ◌<◌, ◌≤◌, Bool, true, false, cond, ◌&&◌, eqb, ltb, List, [], ◌∷◌, length, get_or, take, drop, Some, None, Option, sym, refl, ap, ◌∙◌, inl, inr, arith}
use borrow.Rule.Slice.PartMut.{put_mid}
use Rattle.std.proofs.lemmas.List.{drop_all, drop_more}
use Rattle.std.proofs.lemmas.Bool.{cond-true, cond-false, cases_lt, lt-ltb, le-ltb, and_left, and_right, and_parts}
use Rattle.std.proofs.lemmas.Bool.Decides.{nat_tests}
use Rattle.plan.specs.declared.record.Cell.{Cell}
use Rattle.plan.specs.declared.record.Column.{Column}
use Rattle.plan.specs.Blank.{blank_cell}
use Rattle.columns.specs.Columns.{over, each_of}
use Rattle.columns.specs.Wants.{Want}
use Rattle.measure.specs.declared.ask.Ask.{Ask}
use Rattle.measure.specs.Asks.{want_of, asks_in, wants, asked, no_ask}

over_is : {A : Type 0} (f : List A → List A) (i k : ℕ) (xs : List A) → i ≤ length xs → put_mid i k xs (f (take k (drop i xs))) ≡ over f i k xs
unfolding over
over_is f zero k xs h = refl
over_is f (suc i) k [] h = let no : ⊥ = omega arith in absurd no
over_is f (suc i) k (x ∷ xs) h = ap (λ ys. x ∷ ys) (over_is f i k xs (omega arith))

-- a part of a slice is lent and written
pub written : {A : Type 0} (f : List A → List A) (i k n : ℕ) (xs ys : List A) → i ≤ length xs → n ≡ k → ys ≡ f (take n (drop i xs)) → put_mid i n xs ys ≡ over f i k xs
written f i k n xs ys h e ey = let o = over_is f i k xs h in cc

-- what a cell that asks makes of the columns
abbrev pub done : (Want → List Column → List Column) → Cell → Option Ask → List Column → List Column
done f c None ds = ds
done f c (Some a) ds = f (want_of c a) ds

wants_none : (t n : ℕ) (cs : List Cell) → wants t n cs [] ≡ []
wants_none t n [] = refl
wants_none t n (c ∷ cs) = refl

module _ (f : Want → List Column → List Column) (t n s : ℕ) where
  -- what these cells make of the columns
  abbrev rest : List Cell → List Ask → List Column → List Column
  rest cs as' ds = each_of s f (wants t n cs as') ds

  head_by : (c : Cell) (a : Ask) (xs : List Want) (ds : List Column) (b e : Bool) → eqb c.across s ≡ e →
      each_of s f (cond b (want_of c a ∷ xs) xs) ds ≡ each_of s f xs (done f c (cond (e && b) (Some a) None) ds)
  unfolding each_of
  head_by c a xs ds true true h = ap (λ es. each_of s f xs es) (cond-true (eqb c.across s) _ _ h)
  head_by c a xs ds true false h = ap (λ es. each_of s f xs es) (cond-false (eqb c.across s) _ _ h)
  head_by c a xs ds false true h = refl
  head_by c a xs ds false false h = refl

  rest_none : (i : ℕ) (cs : List Cell) (as' : List Ask) (ds : List Column) → length as' ≤ i → rest cs (drop i as') ds ≡ ds
  unfolding each_of
  rest_none i cs as' ds h = ap (λ bs. rest cs bs ds) (drop_all i as' h) ∙ ap (λ xs. each_of s f xs ds) (wants_none t n cs)

  pub rest_all : (i : ℕ) (cs : List Cell) (as' : List Ask) (ds : List Column) → length cs ≤ i → rest (drop i cs) as' ds ≡ ds
  unfolding each_of
  rest_all i cs as' ds h = ap (λ bs. rest bs as' ds) (drop_all i cs h)

  pub rest_more : (cs : List Cell) (as' : List Ask) (i : ℕ) (ds : List Column) → i < length cs →
      rest (drop i cs) (drop i as') ds ≡ rest (drop (i + 1) cs) (drop (i + 1) as') (done f (get_or cs i blank_cell) (asked t n s i (get_or cs i blank_cell) as') ds)
  rest_more cs as' i ds h =
      let c = get_or cs i blank_cell in
      elim (cases_lt i (length as')) [
        | inl l ↦
            ap (λ bs. rest bs (drop i as') ds) (drop_more cs i blank_cell h) ∙
            ap (λ bs. rest (c ∷ drop (i + 1) cs) bs ds) (drop_more as' i no_ask l) ∙
            head_by c (get_or as' i no_ask) (wants t n (drop (i + 1) cs) (drop (i + 1) as')) ds (asks_in t n c) (eqb c.across s) refl ∙
            ap (λ b. rest (drop (i + 1) cs) (drop (i + 1) as') (done f c (cond (eqb c.across s && (b && asks_in t n c)) (Some (get_or as' i no_ask)) None) ds))
            (sym (lt-ltb i (length as') l))
        | inr g ↦
            rest_none i (drop i cs) as' ds g ∙
            sym (ap (λ r. done f c r ds) (cond-false _ _ _ (and_right (eqb c.across s) _ (and_left _ (asks_in t n c) (le-ltb i (length as') g))))) ∙
            sym (rest_none (i + 1) (drop (i + 1) cs) as' _ (omega arith))
      ]

  -- one more cell is done
  pub one_more : (cs : List Cell) (as' : List Ask) (i : ℕ) (ds es T : List Column) (r : Option Ask) → i < length cs →
      r ≡ asked t n s i (get_or cs i blank_cell) as' → es ≡ done f (get_or cs i blank_cell) r ds →
      rest (drop i cs) (drop i as') ds ≡ T → rest (drop (i + 1) cs) (drop (i + 1) as') es ≡ T
  one_more cs as' i ds es T r h er ee e = let m = rest_more cs as' i ds h in cc

-- a cell that asks lies in the columns
pub asks_fit : (t n : ℕ) (c : Cell) → asks_in t n c ≡ true → (1 ≤ c.across) × (c.across ≤ 32) × (c.column + c.across ≤ n)
asks_fit t n c e = grind (arith, nat_tests)

since_some : {A : Type 0} (b : Bool) (a x : A) → cond b (Some a) None ≡ Some x → b ≡ true
since_some true a x e = refl
since_some false a x e = cc

pub asked_fits : (t n s i : ℕ) (c : Cell) (as' : List Ask) (a : Ask) → asked t n s i c as' ≡ Some a → c.column + c.across ≤ n
asked_fits t n s i c as' a e =
    let one = and_parts (eqb c.across s) (ltb i (length as') && asks_in t n c) (since_some _ _ a e) in
    (asks_fit t n c (and_parts (ltb i (length as')) (asks_in t n c) one.1).1).2

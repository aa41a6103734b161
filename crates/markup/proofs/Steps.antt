-- How values and attributes are read, piece by piece.
use Rattle.std.proofs.Common.{◌≡◌, ℕ, zero, suc, ◌+◌, ◌-◌, ◌<◌, ◌≤◌, Bool, cond, ◌&&◌, eqb, leb, List, [], ◌∷◌, length, take, drop, Some, None, Option, sym, refl, ap, ◌∙◌, arith, length-take-le}
use Rattle.std.proofs.lemmas.List.{drop-drop}
use Rattle.std.proofs.lemmas.Bool.{and_from, le-leb, eq-eqb, ne_eqb, cond-true, cond-false}
use Rattle.classes.specs.Classes.{white}
use Rattle.markup.specs.declared.record.Attribute.{Attribute}
use Rattle.markup.specs.declared.values.Given as code_given
use Rattle.markup.specs.Attributes.{Values, Given, Piece, Bad, Last, One, bare_value, given_of, piece_one, piece_of, with_given, after_given, after_piece, values_of}
use Rattle.markup.specs.Spans.{number, front}
use Rattle.markup.specs.Views.{as_given, left, given_left}
use Rattle.markup.proofs.Runs.{front_le}

-- ---- a value

pub digits_left : (xs : List ℕ) (n : ℕ) → 1 ≤ n → n ≤ 5 → Some (number 0 (take n xs), drop n xs) ≡ left xs (bare_value xs n)
digits_left xs n h k =
    ap (left xs) (sym (cond-true (leb 1 n && leb n 5) (Some (number 0 (take n xs), n)) None (and_from (leb 1 n) (leb n 5) (le-leb 1 n h) (le-leb n 5 k))))

-- ---- all of them

-- white space comes first, and more after it
pub record Spaced (xs : List ℕ) : Type 0 where
  white_first : 1 ≤ front white xs
  more : front white xs < length xs

pub spaced : (xs ws : List ℕ) → ws ≡ take (front white xs) xs → (length ws ≡ 0 → ⊥) → (length ws ≡ length xs → ⊥) → Spaced xs
spaced xs ws e f g =
    let h = front_le white xs in
    let l : length ws ≡ front white xs = ap length e ∙ length-take-le (front white xs) xs h in
    record { white_first = omega arith; more = omega arith }

abbrev pub given_after : List ℕ → Option (code_given.Given × List ℕ)
given_after ys = given_left ys (given_of ys)

module _ (may : Attribute → Bool) where
  values_skip : (vs : Values) (k : ℕ) (xs : List ℕ) → values_of may vs k xs ≡ values_of may vs 0 (drop k xs)
  values_skip vs zero xs = refl
  values_skip vs (suc k) [] = refl
  values_skip vs (suc k) (b ∷ bs) = values_skip vs k bs

  -- what the piece that comes first gives
  by_piece : (vs : Values) (b : ℕ) (bs : List ℕ) (p : Piece) → piece_of (b ∷ bs) ≡ p → after_piece may p vs (λ z k. values_of may z k bs) ≡ values_of may vs 0 (b ∷ bs)
  by_piece vs b bs p e = ap (λ z. after_piece may z vs (λ z k. values_of may z k bs)) (sym e)

  -- only white space is left
  pub blank : (vs : Values) (xs ws : List ℕ) → ws ≡ take (front white xs) xs → length ws ≡ length xs → Some vs ≡ values_of may vs 0 xs
  blank vs [] ws e f = refl
  blank vs (b ∷ bs) ws e f =
      let xs = b ∷ bs in
      let w = front white xs in
      let one = piece_one (given_of (drop w xs)) w in
      let h : w ≡ length xs = omega (arith, ap length e, length-take-le w xs (front_le white xs)) in
      by_piece vs b bs Last (cond-false (eqb w 0) Bad (cond (eqb w (length xs)) Last one) (ne_eqb w 0 (λ k. omega arith)) ∙ cond-true (eqb w (length xs)) Last one (eq-eqb w (length xs) h))

  -- no white space comes first
  pub unspaced : (vs : Values) (xs ws : List ℕ) → ws ≡ take (front white xs) xs → length ws ≡ 0 → (length ws ≡ length xs → ⊥) → None ≡ values_of may vs 0 xs
  unspaced vs [] ws e f g = absurd (g f)
  unspaced vs (b ∷ bs) ws e f g =
      let xs = b ∷ bs in
      let w = front white xs in
      let one = piece_one (given_of (drop w xs)) w in
      let k : w ≡ 0 = omega (arith, ap length e, length-take-le w xs (front_le white xs)) in
      by_piece vs b bs Bad (cond-true (eqb w 0) Bad (cond (eqb w (length xs)) Last one) (eq-eqb w 0 k))

  spaced_is : (xs : List ℕ) → Spaced xs → piece_of xs ≡ piece_one (given_of (drop (front white xs) xs)) (front white xs)
  spaced_is xs s =
      let w = front white xs in
      let one = piece_one (given_of (drop w xs)) w in
      cond-false (eqb w 0) Bad (cond (eqb w (length xs)) Last one) (ne_eqb w 0 (λ e. omega (arith, s.white_first))) ∙
      cond-false (eqb w (length xs)) Last one (ne_eqb w (length xs) (λ e. omega (arith, s.more)))

  no_given : (vs : Values) (b : ℕ) (bs : List ℕ) (w : ℕ) (o : Option Given) → piece_of (b ∷ bs) ≡ piece_one o w → None ≡ given_left (drop w (b ∷ bs)) o → None ≡ values_of may vs 0 (b ∷ bs)
  no_given vs b bs w None e f = by_piece vs b bs Bad e
  no_given vs b bs w (Some g) e f = absurd cc

  pub not_given : (vs : Values) (xs : List ℕ) → Spaced xs → None ≡ given_left (drop (front white xs) xs) (given_of (drop (front white xs) xs)) → None ≡ values_of may vs 0 xs
  not_given vs [] s f = absurd (omega (arith, s.more))
  not_given vs (b ∷ bs) s f = no_given vs b bs (front white (b ∷ bs)) (given_of (drop (front white (b ∷ bs)) (b ∷ bs))) (spaced_is (b ∷ bs) s) f

  same_after : (r : Option Values) (k : ℕ) (bs rest : List ℕ) → rest ≡ drop k bs → after_given may r (λ z. values_of may z 0 rest) ≡ after_given may r (λ z. values_of may z k bs)
  same_after None k bs rest e = refl
  same_after (Some z) k bs rest e = ap (values_of may z 0) e ∙ sym (values_skip z k bs)

  one_given : (vs : Values) (b : ℕ) (bs : List ℕ) (w : ℕ) (o : Option Given) (g : code_given.Given) (rest : List ℕ) (r : Option Values) → 1 ≤ w → piece_of (b ∷ bs) ≡ piece_one o w → Some (g, rest) ≡ given_left (drop w (b ∷ bs)) o → r ≡ with_given may vs (as_given g) → after_given may r (λ z. values_of may z 0 rest) ≡ values_of may vs 0 (b ∷ bs)
  one_given vs b bs w None g rest r h e f k = absurd cc
  one_given vs b bs w (Some d) g rest r h e f k =
      let xs = b ∷ bs in
      let m = w + d.size - 1 in
      let t : ◌≡◌ {A = code_given.Given × List ℕ} (g, rest) (record { name = d.name; value = d.value }, drop d.size (drop w xs)) = cc in
      let n : w + d.size ≡ suc m = omega arith in
      let q : rest ≡ drop m bs = ap (λ (z : code_given.Given × List ℕ). z.1) t ∙ (drop-drop d.size w xs ∙ ap (λ i. drop i xs) n) in
      let a : r ≡ with_given may vs d = k ∙ ap (λ (z : code_given.Given × List ℕ). with_given may vs (as_given z.0)) t in
      same_after r m bs rest q ∙ ap (λ z. after_given may z (λ v. values_of may v m bs)) a ∙ by_piece vs b bs (One d (w + d.size)) e

  -- an attribute, and how it goes on after it
  pub given_then : (vs : Values) (xs : List ℕ) (g : code_given.Given) (rest : List ℕ) (r : Option Values) → Spaced xs → Some (g, rest) ≡ given_left (drop (front white xs) xs) (given_of (drop (front white xs) xs)) → r ≡ with_given may vs (as_given g) → after_given may r (λ z. values_of may z 0 rest) ≡ values_of may vs 0 xs
  given_then vs [] g rest r s f k = absurd (omega (arith, s.more))
  given_then vs (b ∷ bs) g rest r s f k =
      one_given vs b bs (front white (b ∷ bs)) (given_of (drop (front white (b ∷ bs)) (b ∷ bs))) g rest r s.white_first (spaced_is (b ∷ bs) s) f k

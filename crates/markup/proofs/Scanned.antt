-- What is read as attributes is so written.
use Rattle.std.proofs.Common.{◌≡◌, ℕ, suc, ◌+◌, ◌<◌, ◌≤◌, cond, ◌&&◌, eqb, ltb, leb, List, [], ◌∷◌, ◌++◌, length, get_or, take, drop, IfSome, Some, None, Option, sym, refl, ap, ◌∙◌, subst, arith}
use Rattle.std.proofs.lemmas.List.{length-take-le, take-append-drop, take_all, take_more, drop_more}
use Rattle.std.proofs.lemmas.Bool.{cond_both, and_parts, leb-true, ltb-true, eqb-true, eqb-false}
use Rattle.classes.specs.Classes.{white}
use Rattle.markup.specs.declared.record.Attribute.{Attribute}
use Rattle.markup.specs.Attributes.{Given, Piece, Bad, Last, One, attribute_of, bare_value, quoted_value, value_of, joined, given_of, piece_one, piece_of}
use Rattle.markup.specs.Form.{Only, ValueWritten, bare, quoted}
use Rattle.markup.specs.Spans.{letter, digit, front, number}
use Rattle.markup.proofs.Runs.{front_le, front_only}

-- ---- a value

-- the first bytes are a value
abbrev ValueAt : List ℕ → ℕ × ℕ → Type 0
ValueAt xs r = (r.1 ≤ length xs) × ValueWritten (take r.1 xs) r.0

abbrev Valued : List ℕ → Option (ℕ × ℕ) → Type 0
Valued xs o = IfSome o (ValueAt xs)

bare_reads : (xs : List ℕ) → Valued xs (bare_value xs (front digit xs))
bare_reads xs =
    let n = front digit xs in
    let l : length (take n xs) ≡ n = length-take-le n xs (front_le digit xs) in
    cond_both (leb 1 n && leb n 5) (Some (number 0 (take n xs), n)) None (Valued xs)
    (λ e. let p = and_parts (leb 1 n) (leb n 5) e in (front_le digit xs, bare (take n xs) (front_only digit xs) (omega (arith, leb-true 1 n p.0)) (omega (arith, leb-true n 5 p.1))))
    (λ _. tt)

quoted_reads : (b : ℕ) (bs : List ℕ) → b ≡ 34 → Valued (b ∷ bs) (quoted_value bs (front digit bs))
quoted_reads b bs e =
    let n = front digit bs in
    let l : length (take n bs) ≡ n = length-take-le n bs (front_le digit bs) in
    cond_both ((leb 1 n && leb n 5) && (ltb n (length bs) && eqb (get_or bs n 0) 34)) (Some (number 0 (take n bs), n + 2)) None (Valued (b ∷ bs))
    (λ t.
    let p = and_parts (leb 1 n && leb n 5) (ltb n (length bs) && eqb (get_or bs n 0) 34) t in
    let q = and_parts (leb 1 n) (leb n 5) p.0 in
    let r = and_parts (ltb n (length bs)) (eqb (get_or bs n 0) 34) p.1 in
    let h : n < length bs = ltb-true n (length bs) r.0 in
    let m : n + 2 ≡ suc (n + 1) = omega arith in
    let w : 34 ∷ (take n bs ++ (34 ∷ [])) ≡ take (n + 2) (b ∷ bs) =
    ap (λ z. z ∷ (take n bs ++ (34 ∷ []))) (sym e) ∙ ap (λ z. b ∷ (take n bs ++ (z ∷ []))) (sym (eqb-true (get_or bs n 0) 34 r.1)) ∙ ap (λ zs. b ∷ zs) (sym (take_more bs n 0 h)) ∙ ap (λ k. take k (b ∷ bs)) (sym m) in
    (omega arith, subst (λ z. ValueWritten z (number 0 (take n bs))) w (quoted (take n bs) (front_only digit bs) (omega (arith, leb-true 1 n q.0)) (omega (arith, leb-true n 5 q.1)))))
    (λ _. tt)

value_reads : (xs : List ℕ) → Valued xs (value_of xs)
value_reads [] = tt
value_reads (b ∷ bs) =
    cond_both (eqb b 34) (quoted_value bs (front digit bs)) (bare_value (b ∷ bs) (front digit (b ∷ bs))) (Valued (b ∷ bs)) (λ e. quoted_reads b bs (eqb-true b 34 e)) (λ _. bare_reads (b ∷ bs))

-- ---- one attribute

record GivenAt (xs : List ℕ) (g : Given) : Type 0 where
  name : List ℕ
  value : List ℕ
  rest : List ℕ
  splits : xs ≡ name ++ (61 ∷ (value ++ rest))
  letters : Only letter name
  named : attribute_of name ≡ Some g.name
  valued : ValueWritten value g.value
  size : g.size ≡ length name + 1 + length value

joined_reads : (xs : List ℕ) (n : ℕ) (o : Option Attribute) (v : Option (ℕ × ℕ)) → n < length xs → get_or xs n 0 ≡ 61 → Only letter (take n xs) → attribute_of (take n xs) ≡ o → Valued (drop (n + 1) xs) v → IfSome (joined o v n) (GivenAt xs)
joined_reads xs n None v h e l a r = tt
joined_reads xs n (Some a) None h e l f r = tt
joined_reads xs n (Some a) (Some p) h e l f r =
    let zs = drop (n + 1) xs in
    let s : drop n xs ≡ 61 ∷ zs = drop_more xs n 0 h ∙ ap (λ z. z ∷ zs) e in
    let w : xs ≡ take n xs ++ (61 ∷ zs) = sym (take-append-drop n xs) ∙ ap (λ t. take n xs ++ t) s in
    record {
      name = take n xs;
      value = take p.1 zs;
      rest = drop p.1 zs;
      splits = w ∙ ap (λ t. take n xs ++ (61 ∷ t)) (sym (take-append-drop p.1 zs));
      letters = l;
      named = f;
      valued = r.1;
      size = omega (arith, length-take-le n xs (omega arith), length-take-le p.1 zs r.0);
    }

given_reads : (xs : List ℕ) → IfSome (given_of xs) (GivenAt xs)
given_reads xs =
    let n = front letter xs in
    let v = value_of (drop (n + 1) xs) in
    cond_both (ltb n (length xs) && eqb (get_or xs n 0) 61) (joined (attribute_of (take n xs)) v n) None (λ o. IfSome o (GivenAt xs))
    (λ t. let p = and_parts (ltb n (length xs)) (eqb (get_or xs n 0) 61) t in joined_reads xs n (attribute_of (take n xs)) v (ltb-true n (length xs) p.0) (eqb-true (get_or xs n 0) 61 p.1) (front_only letter xs) refl (value_reads (drop (n + 1) xs)))
    (λ _. tt)

-- ---- one piece

record OneAt (xs : List ℕ) (g : Given) (k : ℕ) : Type 0 where
  ws : List ℕ
  ys : List ℕ
  splits : xs ≡ ws ++ ys
  blank : Only white ws
  some : 1 ≤ length ws
  given : GivenAt ys g
  size : k ≡ length ws + g.size

abbrev PieceAt : List ℕ → Piece → Type 0
PieceAt xs Bad = Unit {0}
PieceAt xs Last = Only white xs
PieceAt xs (One g k) = OneAt xs g k

one_reads : (xs : List ℕ) (w : ℕ) (o : Option Given) → 1 ≤ w → w ≤ length xs → Only white (take w xs) → IfSome o (GivenAt (drop w xs)) → PieceAt xs (piece_one o w)
one_reads xs w None h k l r = tt
one_reads xs w (Some g) h k l r =
    let e : length (take w xs) ≡ w = length-take-le w xs k in
    record { ws = take w xs; ys = drop w xs; splits = sym (take-append-drop w xs); blank = l; some = omega arith; given = r; size = omega arith }

piece_reads : (xs : List ℕ) → PieceAt xs (piece_of xs)
piece_reads xs =
    let w = front white xs in
    let one = piece_one (given_of (drop w xs)) w in
    cond_both (eqb w 0) Bad (cond (eqb w (length xs)) Last one) (PieceAt xs) (λ _. tt) (λ e.
    cond_both (eqb w (length xs)) Last one (PieceAt xs)
    (λ f. subst (Only white) (take_all w xs (omega (arith, eqb-true w (length xs) f))) (front_only white xs))
    (λ _. one_reads xs w (given_of (drop w xs)) (omega (arith, eqb-false w 0 e)) (front_le white xs) (front_only white xs) (given_reads (drop w xs))))

-- A shelf with a margin is as lawful as the shelf below it, and what its lines are made of.
use Rattle.std.proofs.Common.{◌≡◌, ℕ, ◌+◌, ◌-◌, ◌*◌, ◌<◌, ◌≤◌, true, false, cond, List, length, get_or, replicate, ◌∙◌, arith, lit≤, rules}
use lib.ListN.{length-replicate, get_or-replicate}
use borrow.Rule.Slice.PartMut.{put_mid}
use Rattle.std.proofs.lemmas.List.FromFn.{length-map-range_with_len, get_or-map-range_with_len}
use Rattle.std.proofs.lemmas.List.{places}
use Rattle.std.proofs.lemmas.Bool.{cond_both}
use Rattle.std.proofs.lemmas.Bool.Decides.{nat_tests}
use Rattle.shelf.specs.Shelves.{Meaning, Fitting, Lawful, chars}
use Rattle.shelf.specs.Margins.{margined, padded, framed, within}
use Rattle.shelf.proofs.Lines.{same_chars}

-- a character that can be shown
abbrev pub Printable : ℕ → Type 0
Printable c = (32 ≤ c) × (c ≤ 126)

-- a width that the shelf with the margin can be set at leaves the shelf below one that it can be set at
pub fitting_below : (corner flat side n : ℕ) (m : Meaning) (k w : ℕ) → Fitting (margined corner flat side n m) k w → Fitting m k (w - 2 * n)
fitting_below corner flat side n m k w f = record { there = f.there; enough = omega arith; small = omega arith }

-- a place between the margins is one of the shelf below
pub place_below : (n x i : ℕ) → within n x i ≡ true → (n ≤ i) × (i - n < x)
place_below n x i e = (grind (arith, nat_tests), grind (arith, nat_tests))

printable_below : (m : Meaning) → Lawful m → (k w r c : ℕ) → Fitting m k w → r < m.height k w → c < w → Printable (m.glyph k w r c)
printable_below m l k w r c f hr hc = (l.above k w r c f hr hc, l.below k w r c f hr hc)

printable : (corner flat side n : ℕ) (m : Meaning) → Printable corner → Printable flat → Printable side → Lawful m → (k w r c : ℕ) → Fitting (margined corner flat side n m) k w → Printable ((margined corner flat side n m).glyph k w r c)
printable corner flat side n m pc pf ps l k w r c f =
    cond_both (within n (m.height k (w - 2 * n)) r) _ _ Printable
    (λ er. cond_both (within n (w - 2 * n) c) _ _ Printable
    (λ ec. printable_below m l k (w - 2 * n) (r - n) (c - n) (fitting_below corner flat side n m k w f) (place_below n _ r er).1 (place_below n _ c ec).1)
    (λ _. ps))
    (λ _. cond_both (within n (w - 2 * n) c) _ _ Printable (λ _. pf) (λ _. pc))

pub margined_lawful : (corner flat side n : ℕ) (m : Meaning) → Printable corner → Printable flat → Printable side → Lawful m → Lawful (margined corner flat side n m)
margined_lawful corner flat side n m pc pf ps l = record {
  number = l.number;
  narrow = λ k h. omega (arith, l.narrow k h);
  ordered = λ k h. omega (arith, l.ordered k h);
  wide = λ k h. omega arith;
  tall = λ k w f. omega (arith, l.tall k (w - 2 * n) (fitting_below corner flat side n m k w f));
  low = λ k w f. omega arith;
  above = λ k w r c f _ _. (printable corner flat side n m pc pf ps l k w r c f).0;
  below = λ k w r c f _ _. (printable corner flat side n m pc pf ps l k w r c f).1;
}

pub padded_lawful : (p : ℕ) (m : Meaning) → Lawful m → Lawful (padded p m)
padded_lawful p m l =
    let blank : Printable 32 = (lit≤ tt, lit≤ tt) in
    margined_lawful 32 32 32 p m blank blank blank l

pub framed_lawful : (b : ℕ) (m : Meaning) → Lawful m → Lawful (framed b m)
framed_lawful b m l = margined_lawful 43 45 124 b m (lit≤ tt, lit≤ tt) (lit≤ tt, lit≤ tt) (lit≤ tt, lit≤ tt) l

-- a line of one character with a part ys written over it
pub over : (n x w v : ℕ) (ys : List ℕ) (c : ℕ) → length ys ≡ x → n + x ≤ w → c < w → get_or (put_mid n x (replicate w v) ys) c 0 ≡ cond (within n x c) (get_or ys (c - n) 0) v
over n x w v ys c long wide h = grind (arith, nat_tests, places)

-- a line of one character with a part ys written between its margins, where it is that line of the shelf m
between_margins : (m : Meaning) (k w r n v : ℕ) (ys : List ℕ) → 2 * n ≤ w → length ys ≡ w - 2 * n → ((c : ℕ) → within n (w - 2 * n) c ≡ true → get_or ys (c - n) 0 ≡ m.glyph k w r c) → ((c : ℕ) → within n (w - 2 * n) c ≡ false → v ≡ m.glyph k w r c) → put_mid n (w - 2 * n) (replicate w v) ys ≡ chars m k w r
between_margins m k w r n v ys wide long inside outside =
    same_chars m k w r (put_mid n (w - 2 * n) (replicate w v) ys)
    (search (rules, places))
    (λ c h.
    over n (w - 2 * n) w v ys c long (omega arith) h ∙
    cond_both (within n (w - 2 * n) c) _ _ (λ x. x ≡ m.glyph k w r c) (inside c) (outside c))

-- a row above or under the content: corners with flats between them
pub outer_row : (corner flat side n : ℕ) (m : Meaning) (k w r : ℕ) → 2 * n ≤ w → within n (m.height k (w - 2 * n)) r ≡ false → put_mid n (w - 2 * n) (replicate w corner) (replicate (w - 2 * n) flat) ≡ chars (margined corner flat side n m) k w r
outer_row corner flat side n m k w r wide out =
    between_margins (margined corner flat side n m) k w r n corner (replicate (w - 2 * n) flat) wide
    (length-replicate (w - 2 * n) flat)
    (λ c inside. get_or-replicate (w - 2 * n) (c - n) flat 0 (place_below n _ c inside).1 ∙ simp (out, inside))
    (λ c outside. simp (out, outside))

-- a row beside it: sides with the content's line between them
pub middle_row : (corner flat side n : ℕ) (m : Meaning) (k w r : ℕ) → 2 * n ≤ w → within n (m.height k (w - 2 * n)) r ≡ true → put_mid n (w - 2 * n) (replicate w side) (chars m k (w - 2 * n) (r - n)) ≡ chars (margined corner flat side n m) k w r
middle_row corner flat side n m k w r wide at =
    between_margins (margined corner flat side n m) k w r n side (chars m k (w - 2 * n) (r - n)) wide
    (length-map-range_with_len (m.glyph k (w - 2 * n) (r - n)) 0 (w - 2 * n))
    (λ c inside.
    get_or-map-range_with_len (m.glyph k (w - 2 * n) (r - n)) 0 (w - 2 * n) (c - n) (c - n) 0 (place_below n _ c inside).1 (omega arith) ∙
    simp (at, inside))
    (λ c outside. simp (at, outside))

-- both rows as a call leaves them: xs is the line before the part between its margins, of x places, came to hold ys
pub outer_line : (corner flat side n : ℕ) (m : Meaning) (k w r x y : ℕ) (xs ys : List ℕ) → 2 * n ≤ w → within n (m.height k (w - 2 * n)) r ≡ false → x ≡ w - 2 * n → xs ≡ replicate w corner → ys ≡ replicate y flat → y ≡ w - 2 * n → put_mid n x xs ys ≡ chars (margined corner flat side n m) k w r
outer_line corner flat side n m k w r x y xs ys wide out ex exs eys ey = rw (ex, exs, eys, ey) (outer_row corner flat side n m k w r wide out)

pub middle_line : (corner flat side n : ℕ) (m : Meaning) (k w r x : ℕ) (xs ys : List ℕ) → 2 * n ≤ w → within n (m.height k (w - 2 * n)) r ≡ true → x ≡ w - 2 * n → xs ≡ replicate w side → ys ≡ chars m k (w - 2 * n) (r - n) → put_mid n x xs ys ≡ chars (margined corner flat side n m) k w r
middle_line corner flat side n m k w r x xs ys wide at ex exs eys = rw (ex, exs, eys) (middle_row corner flat side n m k w r wide at)

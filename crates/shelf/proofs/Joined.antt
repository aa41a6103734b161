-- Two lawful shelves are lawful as one.
use Rattle.std.proofs.Common.{◌≡◌, ℕ, ◌/◌, Bool, true, false, cond, leb}
use Rattle.std.proofs.lemmas.Bool.{and_parts, leb-true}
use Rattle.shelf.specs.Shelves.{Meaning, Fitting, Lawful, largest}
use Rattle.shelf.specs.Joined.{even, joined}

-- the first shelf where t is true, else the second
abbrev picked : Bool → Meaning → Meaning → Meaning
picked t a b = record {
  has = λ k. cond t (a.has k) (b.has k);
  minimum = λ k. cond t (a.minimum k) (b.minimum k);
  maximum = λ k. cond t (a.maximum k) (b.maximum k);
  height = λ k w. cond t (a.height k w) (b.height k w);
  glyph = λ k w r c. cond t (a.glyph k w r c) (b.glyph k w r c);
}

picked_lawful : (t : Bool) (a b : Meaning) → Lawful a → Lawful b → Lawful (picked t a b)
picked_lawful true a b x y = x
picked_lawful false a b x y = y

has_parts : (a b : Meaning) (j : ℕ) → (joined a b).has j ≡ true → (leb j largest ≡ true) × ((picked (even j) a b).has (j / 2) ≡ true)
has_parts a b j h = and_parts _ _ h

-- at a width that fits number j, the number that j stands for fits too
fitting_picked : (a b : Meaning) (j w : ℕ) → Fitting (joined a b) j w → Fitting (picked (even j) a b) (j / 2) w
fitting_picked a b j w f = record { there = (has_parts a b j f.there).1; enough = f.enough; small = f.small }

pub joined_lawful : (a b : Meaning) → Lawful a → Lawful b → Lawful (joined a b)
joined_lawful a b x y =
    let l : (j : ℕ) → Lawful (picked (even j) a b) = λ j. picked_lawful (even j) a b x y in
    record {
      number = λ j h. leb-true j largest (has_parts a b j h).0;
      narrow = λ j h. (l j).narrow (j / 2) (has_parts a b j h).1;
      ordered = λ j h. (l j).ordered (j / 2) (has_parts a b j h).1;
      wide = λ j h. (l j).wide (j / 2) (has_parts a b j h).1;
      tall = λ j w f. (l j).tall (j / 2) w (fitting_picked a b j w f);
      low = λ j w f. (l j).low (j / 2) w (fitting_picked a b j w f);
      above = λ j w r c f. (l j).above (j / 2) w r c (fitting_picked a b j w f);
      below = λ j w r c f. (l j).below (j / 2) w r c (fitting_picked a b j w f);
    }

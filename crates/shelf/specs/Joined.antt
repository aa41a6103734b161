-- Two shelves as one: number 2k is number k of the first, and 2k + 1 is number k of the second.
use Rattle.std.specs.Prelude.{ℕ, ◌/◌, ◌%◌, Bool, if◌then◌else◌, ◌&&◌, ◌==◌, nat_le}
use Rattle.shelf.specs.Shelves.{Meaning, largest}

-- j is a number of the first shelf
abbrev pub even : ℕ → Bool
even j = j % 2 == 0

abbrev pub joined : Meaning → Meaning → Meaning
joined a b = record {
  has = λ j. nat_le j largest && (if even j then a.has (j / 2) else b.has (j / 2));
  minimum = λ j. if even j then a.minimum (j / 2) else b.minimum (j / 2);
  maximum = λ j. if even j then a.maximum (j / 2) else b.maximum (j / 2);
  height = λ j w. if even j then a.height (j / 2) w else b.height (j / 2) w;
  glyph = λ j w r c. if even j then a.glyph (j / 2) w r c else b.glyph (j / 2) w r c;
}

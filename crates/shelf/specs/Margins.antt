-- A shelf with a margin around each content: blanks for padding, lines for a frame.
use Rattle.std.specs.Prelude.{ℕ, ◌+◌, ◌-◌, ◌*◌, min, Bool, if◌then◌else◌, ◌&&◌, nat_le, nat_lt}
use Rattle.shelf.specs.Shelves.{Meaning, largest}

-- n more on both sides, and never past the largest number
abbrev pub grown : ℕ → ℕ → ℕ
grown n x = min (x + 2 * n) largest

-- place i is one of the x places after the first n
abbrev pub within : ℕ → ℕ → ℕ → Bool
within n x i = nat_le n i && nat_lt i (n + x)

-- a margin of n places on all four sides; the shelf below is set at what is left of the width.
-- The margin shows `corner` in its corners, `flat` above and under the content and `side` left and right of it
abbrev pub margined : (corner flat side n : ℕ) → Meaning → Meaning
margined corner flat side n m = record {
  has = m.has;
  minimum = λ k. grown n (m.minimum k);
  maximum = λ k. grown n (m.maximum k);
  height = λ k w. grown n (m.height k (w - 2 * n));
  glyph = λ k w r c.
      if within n (m.height k (w - 2 * n)) r
      then (if within n (w - 2 * n) c then m.glyph k (w - 2 * n) (r - n) (c - n) else side)
      else if within n (w - 2 * n) c then flat else corner;
}

-- padding p: p blanks on all four sides
abbrev pub padded : ℕ → Meaning → Meaning
padded p m = margined 32 32 32 p m

-- frame b: with 1 a line of "-" above and under, "|" on both sides and "+" in the corners, with 0 nothing
abbrev pub framed : ℕ → Meaning → Meaning
framed b m = margined 43 45 124 b m

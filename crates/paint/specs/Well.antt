-- The page law, place by place over the bytes of the slice.
use Rattle.std.specs.Prelude.{◌≡◌, ℕ, ◌+◌, ◌*◌, ◌<◌, List, length, Some, slice_index}
use Rattle.std.specs.List.{slice_get}
use Rattle.shelf.specs.Shelves.{Meaning}
use Rattle.plan.specs.declared.record.Cell.{Cell}
use Rattle.plan.specs.declared.record.Holds.TheVariants.{Content}

-- line r of content k, which cell c holds, has its place j in column x and line y of the page
pub record LineAt (m : Meaning) (c : Cell) (k r j x y : ℕ) : Type 0 where
  pub holds : c.holds ≡ Content k
  pub of_content : r < m.height k c.rect.width
  pub in_box : r < c.rect.height
  pub in_line : j < c.rect.width
  pub column : x ≡ c.rect.left + j
  pub line : y ≡ c.rect.top + r

-- `count` lines of a page W wide, from the line `first` on, as bytes
pub record PaintedWell (m : Meaning) (cs : List Cell) (W first count : ℕ) (bytes : List ℕ) : Type 0 where
  pub long : length bytes ≡ count * (W + 1)
  -- each line ends in a newline
  pub newline : (y : ℕ) → y < count → slice_index bytes (y * (W + 1) + W) ≡ 10
  -- every line of every content stands in its box, whole, as far as it lies in these lines
  pub shows : (i : ℕ) (c : Cell) (k r j x y : ℕ) → slice_get cs i ≡ Some c → LineAt m c k r j x (first + y) → y < count →
      (x < W) × (slice_index bytes (y * (W + 1) + x) ≡ m.glyph k c.rect.width r j)
  -- all else is blank
  pub blank : (x y : ℕ) → x < W → y < count → ((i : ℕ) (c : Cell) (k r j : ℕ) → slice_get cs i ≡ Some c → LineAt m c k r j x (first + y) → ⊥) →
      slice_index bytes (y * (W + 1) + x) ≡ 32

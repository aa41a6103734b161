-- What a shelf means: which contents it has, and how each is shown at a width.
use Rattle.std.specs.Prelude.{◌≡◌, ℕ, ◌<◌, ◌≤◌, Bool, true, List, map}
use Rattle.std.specs.List.{range_with_len}

-- contents go by number; what is said of a number that is not on the shelf, or of a width that a content cannot be set at, means nothing
pub record Meaning : Type 0 where
  pub has : ℕ → Bool
  pub minimum : ℕ → ℕ
  pub maximum : ℕ → ℕ
  -- how many lines a content takes at a width
  pub height : ℕ → ℕ → ℕ
  -- the character of a content at a width, on a line and in a column
  pub glyph : ℕ → ℕ → ℕ → ℕ → ℕ

-- no content is set wider than this
abbrev pub widest : ℕ
widest = 2000

-- no width, height or content number is larger than this
abbrev pub largest : ℕ
largest = 65535

-- content k is on the shelf and can be set at width w
pub record Fitting (m : Meaning) (k w : ℕ) : Type 0 where
  pub there : m.has k ≡ true
  pub enough : m.minimum k ≤ w
  pub small : w ≤ widest

-- the laws that every shelf keeps
pub record Lawful (m : Meaning) : Type 0 where
  pub number : (k : ℕ) → m.has k ≡ true → k ≤ largest
  pub narrow : (k : ℕ) → m.has k ≡ true → 1 ≤ m.minimum k
  pub ordered : (k : ℕ) → m.has k ≡ true → m.minimum k ≤ m.maximum k
  pub wide : (k : ℕ) → m.has k ≡ true → m.maximum k ≤ largest
  pub tall : (k w : ℕ) → Fitting m k w → 1 ≤ m.height k w
  pub low : (k w : ℕ) → Fitting m k w → m.height k w ≤ largest
  pub above : (k w r c : ℕ) → Fitting m k w → r < m.height k w → c < w → 32 ≤ m.glyph k w r c
  pub below : (k w r c : ℕ) → Fitting m k w → r < m.height k w → c < w → m.glyph k w r c ≤ 126

-- the characters of line r of content k at width w
abbrev pub chars : Meaning → ℕ → ℕ → ℕ → List ℕ
chars m k w r = map (m.glyph k w r) (range_with_len 0 w)

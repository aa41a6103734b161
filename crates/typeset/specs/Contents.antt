-- What a shelf of contents that stand in bytes means, and what it is to show them faithfully.
use Rattle.std.specs.Prelude.{◌≡◌, ℕ, ◌<◌, ◌≤◌, min, max, Bool, true, ◌&&◌, List, [], map, length, drop, nat_le, slice_index_or}
use Rattle.std.specs.List.{range_with_len}
use Rattle.letters.specs.Letters.{letters, sound}
use Rattle.letters.specs.Spelling.{Spells}
use Rattle.letters.specs.declared.Kind.{Kind}
use Rattle.letters.specs.declared.Kind.TheVariants.{Text, Block}
use Rattle.shelf.specs.Shelves.{Meaning, Fitting, largest, chars}
use Rattle.typeset.specs.Words.{words, longest}
use Rattle.typeset.specs.Runs.{Parts}
use Rattle.typeset.specs.Lines.{spaced, lines, blank_filled}
use Rattle.typeset.specs.Filled.{Filled}
use Rattle.typeset.specs.Rows.{rows, Lined}

-- a content before widths are cut off and lines are filled with blanks
pub record Content : Type 0 where
  -- every byte belongs to a character
  pub good : Bool
  pub least : ℕ
  pub most : ℕ
  -- its lines at a width
  pub lines_at : ℕ → List (List ℕ)

-- the bytes of a text: as narrow as the longest word, as wide as all words with single blanks between, and its words in lines;
-- those of a block: as wide as the longest line, and its lines as they stand
abbrev pub content : Kind → List ℕ → Content
content Text bs = record {
  good = sound (letters Text bs);
  least = longest (words (letters Text bs));
  most = length (spaced (words (letters Text bs)));
  lines_at = λ w. map spaced (lines w (words (letters Text bs)));
}
content Block bs = record {
  good = sound (letters Block bs);
  least = longest (rows (letters Block bs));
  most = longest (rows (letters Block bs));
  lines_at = λ _. rows (letters Block bs);
}

-- at least 1, and never past the largest number
abbrev pub measured : ℕ → ℕ
measured n = min (max 1 n) largest

-- content k is there if it lies inside the file and each of its bytes belongs to a character
abbrev pub typeset : (ℕ → Bool) → (ℕ → Content) → Meaning
typeset inside of = record {
  has = λ k. nat_le k largest && (inside k && (of k).good);
  minimum = λ k. measured (of k).least;
  maximum = λ k. measured (of k).most;
  height = λ k w. min (length ((of k).lines_at w)) largest;
  glyph = λ k w r c. slice_index_or (slice_index_or ((of k).lines_at w) r []) c 32;
}

-- content k of m is on the shelf exactly if its number is small enough, its bytes lie inside and spell characters
pub record Present (kind : Kind) (m : Meaning) (k : ℕ) (inside : Bool) (bytes : List ℕ) : Type 0 where
  pub on : k ≤ largest → inside ≡ true → (cs : List ℕ) → Spells kind bytes cs → m.has k ≡ true
  pub small : m.has k ≡ true → k ≤ largest
  pub lies : m.has k ≡ true → inside ≡ true
  pub spelled : m.has k ≡ true → Spells kind bytes (letters kind bytes)

-- the words that stand on the lines of content k
abbrev pub words_read : Meaning → ℕ → ℕ → List (List (List ℕ))
words_read m k w = map (λ r. words (chars m k w r)) (range_with_len 0 (m.height k w))

-- content k of m shows the text that stands in the bytes, at each width that it can be set at
pub record ShowsText (m : Meaning) (k : ℕ) (bytes : List ℕ) : Type 0 where
  -- the characters of the bytes part into words
  pub parted : Parts (letters Text bytes) (words (letters Text bytes))
  -- the words read back from the lines are these words, set in lines
  pub whole : (w : ℕ) → Fitting m k w → m.height k w < largest → Filled w (words (letters Text bytes)) (words_read m k w)
  -- and no other lines are
  pub only : (w : ℕ) (ls : List (List (List ℕ))) → Fitting m k w → m.height k w < largest → Filled w (words (letters Text bytes)) ls → ls ≡ words_read m k w
  -- a line is its words with single blanks between, and then blanks
  pub blanks : (w r : ℕ) → Fitting m k w → r < m.height k w → chars m k w r ≡ blank_filled w (spaced (words (chars m k w r)))
  -- the height is cut off only where there are more than 65,533 bytes
  pub uncut : (w : ℕ) → length bytes < 65534 → m.height k w < largest
  pub narrow : m.minimum k ≡ measured (longest (words (letters Text bytes)))
  pub wide : m.maximum k ≡ measured (length (spaced (words (letters Text bytes))))

-- content k of m shows the block that stands in the bytes, at each width that it can be set at
pub record ShowsBlock (m : Meaning) (k : ℕ) (bytes : List ℕ) : Type 0 where
  -- the newlines part the bytes into lines
  pub parted : Lined bytes (rows bytes)
  -- line r is the characters that line r of the bytes spells, and then blanks
  pub whole : (w r : ℕ) → Fitting m k w → r < m.height k w → (cs : List ℕ) × Spells Block (slice_index_or (rows bytes) r []) cs × (length cs ≤ w) × (chars m k w r ≡ blank_filled w cs)
  -- there are as many lines, up to the largest number
  pub high : (w : ℕ) → m.height k w ≡ min (length (rows bytes)) largest
  -- both widths are the longest line
  pub narrow : m.minimum k ≡ measured (longest (rows (letters Block bytes)))
  pub wide : m.maximum k ≡ m.minimum k

-- the content that begins at the byte start has line r of the whole content as its first line, at width w
pub record Starts (kind : Kind) (s : List ℕ) (w r start : ℕ) : Type 0 where
  pub inside : start ≤ length s
  pub small : (content kind (drop start s)).least ≤ w
  pub same : slice_index_or ((content kind (drop start s)).lines_at w) 0 [] ≡ slice_index_or ((content kind s).lines_at w) r []

-- what one reading of the bytes tells: whether all are characters, the widths, the height at w, and where line r begins
pub record Surveyed (kind : Kind) (s : List ℕ) (w r : ℕ) (good : Bool) (least most high start : ℕ) : Type 0 where
  pub good_is : good ≡ (content kind s).good
  pub least_is : least ≡ measured (content kind s).least
  pub most_is : most ≡ measured (content kind s).most
  pub high_is : high ≡ min (length ((content kind s).lines_at w)) largest
  pub start_is : (content kind s).least ≤ w → r < length ((content kind s).lines_at w) → Starts kind s w r start

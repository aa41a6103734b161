-- How the words of a text are gone through, one after the other.
use Rattle.std.specs.Prelude.{◌≡◌, ℕ, ◌<◌, ◌≤◌, true, ◌&&◌, List, [], length, Some, None, Option}
use Rattle.letters.specs.Letters.{letters_from, sound}
use Rattle.letters.specs.declared.Kind.TheVariants.{Text}
use Rattle.typeset.specs.Words.{words_from, inked, Found}
use Rattle.text.specs.declared.scan.Word.{Word}

-- only white space stands between the byte at and the byte from, where a word begins
pub record Skipped (s : List ℕ) (at from : ℕ) : Type 0 where
  pub low : at ≤ from
  pub high : from < length s
  pub same : words_from s at ≡ words_from s from
  pub kept : sound (letters_from Text s at) ≡ sound (letters_from Text s from)
  pub ink : inked (letters_from Text s from) ≡ true

-- the first word from the byte at on is v, and the byte next comes after it
pub record Scanned (s : List ℕ) (at next : ℕ) (v : Word) : Type 0 where
  pub next_is : next ≡ v.to
  pub found : Found s at v.from v.to v.width
  pub checked : sound (letters_from Text s at) ≡ (v.good && sound (letters_from Text s v.to))
  -- it is as well the first from its own first byte on
  pub inside : v.from ≤ length s
  pub same : words_from s at ≡ words_from s v.from

-- what stands from the byte at on: a word, or no word and only characters, and next is at
abbrev pub Scan : List ℕ → ℕ → ℕ → Option Word → Type 0
Scan s at next None = (next ≡ at) × (words_from s at ≡ []) × (sound (letters_from Text s at) ≡ true)
Scan s at next (Some v) = Scanned s at next v

-- a step from the byte at of s to the byte next of the same bytes gives r
pub record Scans (s : List ℕ) (at : ℕ) (s2 : List ℕ) (next : ℕ) (r : Option Word) : Type 0 where
  pub bytes_same : s2 ≡ s
  pub scan : Scan s at next r

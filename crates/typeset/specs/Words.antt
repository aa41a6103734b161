-- The words of a text.
use Rattle.std.specs.Prelude.{◌≡◌, ℕ, ◌+◌, ◌<◌, ◌≤◌, max, Bool, false, if◌then◌else◌, not, List, [], ◌∷◌, ◌++◌, length, take}
use Rattle.classes.specs.Classes.{white}
use Rattle.letters.specs.Letters.{letters_from}
use Rattle.letters.specs.declared.Kind.TheVariants.{Text}

-- v ends here, and is a word if it has a character
abbrev pub closed : List ℕ → List (List ℕ) → List (List ℕ)
closed [] ws = ws
closed (c ∷ v) ws = (c ∷ v) ∷ ws

-- the words of characters that follow on v, the part of a word
abbrev pub parted : List ℕ → List ℕ → List (List ℕ)
parted v [] = closed v []
parted v (c ∷ cs) = if white c then closed v (parted [] cs) else parted (v ++ c ∷ []) cs

-- the runs of characters that are not white
abbrev pub words : List ℕ → List (List ℕ)
words cs = parted [] cs

-- a character other than white space comes first
abbrev pub inked : List ℕ → Bool
inked [] = false
inked (c ∷ cs) = not (white c)

-- the words of the bytes from at on
abbrev pub words_from : List ℕ → ℕ → List (List ℕ)
words_from s at = words (letters_from Text s at)

-- the length of the longest word or line
abbrev pub longest : List (List ℕ) → ℕ
longest [] = 0
longest (v ∷ vs) = max (length v) (longest vs)

-- the first of the words from at on has n characters, stands at the byte from, and ends before the byte to
pub record Found (s : List ℕ) (at from to n : ℕ) : Type 0 where
  pub some : 0 < n
  pub low : at + n ≤ to
  pub high : to ≤ length s
  pub wide : n ≤ length (letters_from Text s from)
  pub first : words_from s at ≡ take n (letters_from Text s from) ∷ words_from s to

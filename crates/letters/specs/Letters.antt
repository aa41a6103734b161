-- The characters that the bytes of a content stand for.
use Rattle.std.specs.Prelude.{◌≡◌, ℕ, zero, suc, ◌+◌, ◌<◌, ◌≤◌, Bool, true, if◌then◌else◌, not, ◌&&◌, ◌||◌, List, [], ◌∷◌, length, take, drop, Some, None, codes, Option, ◌==◌, nat_lt}
use Rattle.std.specs.Str.{bytes_eq}
use Rattle.classes.specs.Classes.{white, from_to}
use Rattle.letters.specs.declared.Kind.{Kind}
use Rattle.letters.specs.declared.Kind.TheVariants.{Text, Block}
use Rattle.letters.specs.declared.Letter.{Letter}

-- neither < nor &
abbrev pub unmarked : ℕ → Bool
unmarked b = not (b == 60) && not (b == 38)

-- a byte that stands for itself: in a text white space and what can be printed, in a block newline, blank and what can be printed
abbrev pub plain : Kind → ℕ → Bool
plain Text b = white b || (from_to 33 126 b && unmarked b)
plain Block b = b == 10 || (from_to 32 126 b && unmarked b)

-- a byte that may stand in the content at all, as itself or in a reference
abbrev pub allowed : Kind → ℕ → Bool
allowed Text b = white b || from_to 33 126 b
allowed Block b = b == 10 || from_to 32 126 b

abbrev pub begins : List ℕ → List ℕ → Bool
begins p bs = bytes_eq p (take (length p) bs)

module _ (kind : Kind) where
  abbrev pub itself : List ℕ → ℕ × ℕ
  itself [] = (0, 0)
  itself (b ∷ bs) = if plain kind b then (b, 0) else (0, 0)

  -- the character that the bytes begin with, and how many bytes more than one it takes; the character 0 where they begin with none
  abbrev pub letter_of : List ℕ → ℕ × ℕ
  letter_of bs =
      if begins (codes "&lt;") bs then (60, 3)
      else if begins (codes "&gt;") bs then (62, 3)
      else if begins (codes "&amp;") bs then (38, 4)
      else if begins (codes "&quot;") bs then (34, 5)
      else itself bs

  -- the characters of the bytes after the first n
  abbrev pub letters_after : ℕ → List ℕ → List ℕ
  letters_after n [] = []
  letters_after zero (b ∷ bs) = (letter_of (b ∷ bs)).0 ∷ letters_after (letter_of (b ∷ bs)).1 bs
  letters_after (suc n) (b ∷ bs) = letters_after n bs

  -- the characters of the bytes
  abbrev pub letters : List ℕ → List ℕ
  letters bs = letters_after 0 bs

  -- those of the bytes from at on
  abbrev pub letters_from : List ℕ → ℕ → List ℕ
  letters_from s at = letters (drop at s)

  -- the character at a byte
  abbrev pub letter_at : List ℕ → ℕ → Option Letter
  letter_at s at =
      if nat_lt at (length s) then Some (record { glyph = (letter_of (drop at s)).0; next = at + 1 + (letter_of (drop at s)).1 }) else None

  -- c is the character at the byte at, and the next one begins at the byte next
  pub record Stepped (s : List ℕ) (at c next : ℕ) : Type 0 where
    pub low : at < next
    pub high : next ≤ length s
    pub step : letters_from s at ≡ c ∷ letters_from s next

-- every byte belongs to a character
abbrev pub sound : List ℕ → Bool
sound [] = true
sound (c ∷ cs) = nat_lt 0 c && sound cs

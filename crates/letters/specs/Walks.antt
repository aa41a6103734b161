-- How the characters of bytes are gone through, one after the other.
use Rattle.std.specs.Prelude.{◌≡◌, ℕ, ◌≤◌, List, length, Some, None, Option}
use Rattle.letters.specs.declared.Kind.{Kind}
use Rattle.letters.specs.declared.Letter.{Letter}
use Rattle.letters.specs.Letters.{letter_at, Stepped}

-- the character l at the byte at, which is the byte from, and the byte next after it
pub record Stands (kind : Kind) (s : List ℕ) (at next from : ℕ) (l : Letter) : Type 0 where
  pub from_is : from ≡ at
  pub next_is : next ≡ l.next
  pub letter_is : Some l ≡ letter_at kind s at
  pub stepped : Stepped kind s at l.glyph l.next

-- what stands at the byte at: a character, and the byte next after it; or none past the last byte, and next is at
abbrev pub Standing : Kind → List ℕ → ℕ → ℕ → Option (ℕ × Letter) → Type 0
Standing kind s at next None = (next ≡ at) × (length s ≤ at)
Standing kind s at next (Some p) = Stands kind s at next p.0 p.1

-- a step from the byte at of s to the byte next of the same bytes gives r
pub record Moves (kind : Kind) (s : List ℕ) (at : ℕ) (kind2 : Kind) (s2 : List ℕ) (next : ℕ) (r : Option (ℕ × Letter)) : Type 0 where
  pub kind_same : kind2 ≡ kind
  pub bytes_same : s2 ≡ s
  pub standing : Standing kind s at next r

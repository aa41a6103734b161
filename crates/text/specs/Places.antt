-- What contents that stand at places of a file mean, and the promise that nothing of them is lost.
use Rattle.std.specs.Prelude.{◌≡◌, ℕ, ◌-◌, Bool, true, ◌&&◌, List, length, take, drop, nat_le, slice_index_or}
use Rattle.letters.specs.declared.Kind.{Kind}
use Rattle.letters.specs.declared.Kind.TheVariants.{Text, Block}
use Rattle.shelf.specs.Shelves.{Meaning}
use Rattle.typeset.specs.Contents.{content, typeset, Present, ShowsText, ShowsBlock}
use Rattle.text.specs.declared.place.Place.{Place}

-- a place that lies in no file
abbrev pub nowhere : Place
nowhere = record { from = 1; to = 0 }

-- the k-th place, or nowhere past the last
abbrev pub place_at : List Place → ℕ → Place
place_at ps k = slice_index_or ps k nowhere

abbrev pub inside : List ℕ → Place → Bool
inside file p = nat_le p.from p.to && nat_le p.to (length file)

-- the bytes of the file at a place
abbrev pub stretch_of : List ℕ → Place → List ℕ
stretch_of file p = take (p.to - p.from) (drop p.from file)

-- the bytes of content k
abbrev pub bytes_of : List ℕ → List Place → ℕ → List ℕ
bytes_of file ps k = stretch_of file (place_at ps k)

-- content k of the kind stands at the k-th place
abbrev pub contents : Kind → List ℕ → List Place → Meaning
contents kind file ps = typeset (λ k. inside file (place_at ps k)) (λ k. content kind (bytes_of file ps k))

-- every text of the file is on the shelf and shown with all its words
pub record TextsKept (file : List ℕ) (ps : List Place) : Type 0 where
  pub present : (k : ℕ) → Present Text (contents Text file ps) k (inside file (place_at ps k)) (bytes_of file ps k)
  pub shown : (k : ℕ) → ShowsText (contents Text file ps) k (bytes_of file ps k)

-- every block of the file is on the shelf and shown with all its lines
pub record BlocksKept (file : List ℕ) (ps : List Place) : Type 0 where
  pub present : (k : ℕ) → Present Block (contents Block file ps) k (inside file (place_at ps k)) (bytes_of file ps k)
  pub shown : (k : ℕ) → (contents Block file ps).has k ≡ true → ShowsBlock (contents Block file ps) k (bytes_of file ps k)

-- every content of the kind is on the shelf and shown with all its words, or all its lines
abbrev pub Kept : Kind → List ℕ → List Place → Type 0
Kept Text file ps = TextsKept file ps
Kept Block file ps = BlocksKept file ps

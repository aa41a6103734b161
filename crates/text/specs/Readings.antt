-- What the code knows of a content once it has read its bytes.
use Rattle.std.specs.Prelude.{◌≡◌, ℕ, true, false, List}
use Rattle.letters.specs.declared.Kind.{Kind}
use Rattle.typeset.specs.Contents.{content, Surveyed}
use Rattle.text.specs.declared.place.Place.{Place}
use Rattle.text.specs.declared.survey.Survey.{Survey}
use Rattle.text.specs.Places.{bytes_of, contents}

-- some byte belongs to no character
abbrev pub NoContent : Kind → List ℕ → Type 0
NoContent kind s = (content kind s).good ≡ false

-- v is what the bytes of a content tell at width w and line r
abbrev pub Tells : Kind → List ℕ → ℕ → ℕ → Survey → Type 0
Tells kind s w r v = Surveyed kind s w r true v.least v.most v.high v.start

-- s are the bytes of content k, and v is what they tell at width w and line r
pub record Read (kind : Kind) (file : List ℕ) (ps : List Place) (k w r : ℕ) (s : List ℕ) (v : Survey) : Type 0 where
  pub there : (contents kind file ps).has k ≡ true
  pub bytes : s ≡ bytes_of file ps k
  pub told : Tells kind (bytes_of file ps k) w r v

-- What a tag is, said without a search: what stands before the first ">".
use Rattle.std.specs.Prelude.{◌≡◌, ℕ, ◌<◌, Bool, true, List, ◌∷◌, ◌++◌, length, Some, Ok, ◌≢◌, slice_index}
use Rattle.letters.specs.declared.Kind.TheVariants.{Text}
use Rattle.letters.specs.Letters.{allowed}
use Rattle.markup.specs.declared.record.Tag.{Tag}
use Rattle.markup.specs.Tags.{body_of, tag_of}

-- the bytes after a "<" begin with n allowed bytes without ">" that say t, and a ">"
pub record Begins (outermost : Bool) (rest : List ℕ) (t : Tag) (n : ℕ) : Type 0 where
  pub body : List ℕ
  pub more : List ℕ
  pub splits : rest ≡ body ++ 62 ∷ more
  pub free : (k : ℕ) → k < length body → slice_index body k ≢ 62
  pub allows : (k : ℕ) → k < length body → allowed Text (slice_index body k) ≡ true
  pub says : body_of outermost body ≡ Some t
  pub size : n ≡ length body

abbrev pub TagsAre : Type 0
TagsAre = (outermost : Bool) (rest : List ℕ) (t : Tag) (n : ℕ) → (tag_of outermost rest ≡ Ok (t, n) → Begins outermost rest t n) × (Begins outermost rest t n → tag_of outermost rest ≡ Ok (t, n))

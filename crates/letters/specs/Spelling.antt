-- How characters are spelled in bytes.
use Rattle.std.specs.Prelude.{◌≡◌, ℕ, true, List, [], ◌∷◌, ◌++◌, codes}
use Rattle.letters.specs.declared.Kind.{Kind}
use Rattle.letters.specs.Letters.{plain}

-- the bytes spell the characters: each of the four references is one character, and a plain byte is itself
pub data Spells (kind : Kind) : List ℕ → List ℕ → Type 0 where
  nothing : Spells kind [] []
  byte : (b : ℕ) (bs cs : List ℕ) → plain kind b ≡ true → Spells kind bs cs → Spells kind (b ∷ bs) (b ∷ cs)
  less : (bs cs : List ℕ) → Spells kind bs cs → Spells kind (codes "&lt;" ++ bs) (60 ∷ cs)
  greater : (bs cs : List ℕ) → Spells kind bs cs → Spells kind (codes "&gt;" ++ bs) (62 ∷ cs)
  ampersand : (bs cs : List ℕ) → Spells kind bs cs → Spells kind (codes "&amp;" ++ bs) (38 ∷ cs)
  quote : (bs cs : List ℕ) → Spells kind bs cs → Spells kind (codes "&quot;" ++ bs) (34 ∷ cs)

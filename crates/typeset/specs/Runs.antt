-- What it is to part characters into words.
use Rattle.std.specs.Prelude.{◌≡◌, ℕ, ◌<◌, true, false, List, [], ◌∷◌, ◌++◌, length}
use Rattle.std.specs.List.{AllByRecursion}
use Rattle.classes.specs.Classes.{white}
use Rattle.typeset.specs.Words.{inked}

-- some characters, none of them white
abbrev pub Solid : List ℕ → Type 0
Solid v = (0 < length v) × AllByRecursion (λ c. white c ≡ false) v

-- a word is a run of characters that are not white, which goes on until white space or the end
pub data Parts : List ℕ → List (List ℕ) → Type 0 where
  nothing : Parts [] []
  blank : (c : ℕ) (cs : List ℕ) (ws : List (List ℕ)) → white c ≡ true → Parts cs ws → Parts (c ∷ cs) ws
  word : (v cs : List ℕ) (ws : List (List ℕ)) → Solid v → inked cs ≡ false → Parts cs ws → Parts (v ++ cs) (v ∷ ws)

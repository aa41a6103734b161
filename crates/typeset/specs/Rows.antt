-- The lines of a block, which newlines part.
use Rattle.std.specs.Prelude.{◌≡◌, ℕ, ◌<◌, false, if◌then◌else◌, List, [], ◌∷◌, ◌++◌, length, ◌==◌}
use Rattle.std.specs.List.{AllByRecursion}
use Rattle.letters.specs.Letters.{letters_from}
use Rattle.letters.specs.declared.Kind.TheVariants.{Block}
use Rattle.typeset.specs.Lines.{onto}

-- the lines of bytes or characters: n newlines make n + 1 lines
abbrev pub rows : List ℕ → List (List ℕ)
rows [] = [] ∷ []
rows (c ∷ cs) = if c == 10 then ([] ∷ rows cs) else onto c (rows cs)

-- the lines of the bytes from at on
abbrev pub rows_from : List ℕ → ℕ → List (List ℕ)
rows_from s at = rows (letters_from Block s at)

-- lines one after the other with a newline between
abbrev pub unlined : List (List ℕ) → List ℕ
unlined [] = []
unlined (l ∷ []) = l
unlined (l ∷ (m ∷ ms)) = l ++ (10 ∷ unlined (m ∷ ms))

-- ls are the lines of cs: put together again they are cs, and none has a newline
pub record Lined (cs : List ℕ) (ls : List (List ℕ)) : Type 0 where
  pub one : 0 < length ls
  pub all : unlined ls ≡ cs
  pub parted : AllByRecursion (AllByRecursion (λ c. (c == 10) ≡ false)) ls

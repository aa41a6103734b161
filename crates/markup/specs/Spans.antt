-- Bytes that come first, letters in either case, and numbers.
use Rattle.std.specs.Prelude.{ℕ, suc, ◌+◌, ◌-◌, ◌*◌, Bool, true, false, if◌then◌else◌, ◌&&◌, ◌||◌, List, [], ◌∷◌, ◌==◌}
use Rattle.classes.specs.Classes.{from_to}

abbrev pub letter : ℕ → Bool
letter b = from_to 65 90 b || from_to 97 122 b

abbrev pub digit : ℕ → Bool
digit b = from_to 48 57 b

-- how many bytes that pass come first
abbrev pub front : (ℕ → Bool) → List ℕ → ℕ
front p [] = 0
front p (b ∷ bs) = if p b then suc (front p bs) else 0

-- a letter as a small one
abbrev pub lower : ℕ → ℕ
lower b = if from_to 65 90 b then b + 32 else b

-- the bytes spell the small letters, in either case
abbrev pub spells : List ℕ → List ℕ → Bool
spells [] [] = true
spells [] (c ∷ cs) = false
spells (b ∷ bs) [] = false
spells (b ∷ bs) (c ∷ cs) = lower b == c && spells bs cs

-- what the digits come to, after n
abbrev pub number : ℕ → List ℕ → ℕ
number n [] = n
number n (d ∷ ds) = number (n * 10 + (d - 48)) ds

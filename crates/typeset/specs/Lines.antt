-- How the lines of a text are filled with words.
use Rattle.std.specs.Prelude.{ℕ, ◌+◌, ◌-◌, if◌then◌else◌, List, [], ◌∷◌, ◌++◌, length, replicate, nat_le, slice_index_or}

-- words with single blanks between
abbrev pub spaced : List (List ℕ) → List ℕ
spaced [] = []
spaced (v ∷ []) = v
spaced (v ∷ (u ∷ us)) = v ++ (32 ∷ spaced (u ∷ us))

-- the places of words with a blank after each
abbrev pub places : List (List ℕ) → ℕ
places [] = 0
places (v ∷ vs) = length v + 1 + places vs

-- v at the front of the first line
abbrev pub onto : {X : Type 0} → X → List (List X) → List (List X)
onto v [] = (v ∷ []) ∷ []
onto v (l ∷ ls) = (v ∷ l) ∷ ls

-- the lines of width w that the words make, where the first line has t places taken:
-- a word goes onto the line if it fits, and else begins the next line
abbrev pub filled : ℕ → ℕ → List (List ℕ) → List (List (List ℕ))
filled w t [] = [] ∷ []
filled w t (v ∷ vs) = if nat_le (t + length v) w then onto v (filled w (t + (length v + 1)) vs) else ([] ∷ onto v (filled w (length v + 1) vs))

abbrev pub lines : ℕ → List (List ℕ) → List (List (List ℕ))
lines w ws = filled w 0 ws

-- the first line
abbrev pub first : {X : Type 0} → List (List X) → List X
first ls = slice_index_or ls 0 []

-- characters and then blanks to the width w
abbrev pub blank_filled : ℕ → List ℕ → List ℕ
blank_filled w cs = cs ++ replicate (w - length cs) 32

-- a line of words, filled with blanks to the width w
abbrev pub shown : ℕ → List (List ℕ) → List ℕ
shown w l = blank_filled w (spaced l)

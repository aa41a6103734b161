-- The share rule: an amount W is shared over weights whose sum D is above 0.
-- With C(j) the sum of the weights 0 to j, and C(-1) = 0, part j is floor (W * C(j) / D) - floor (W * C(j - 1) / D).
use Rattle.std.specs.Prelude.{List, [], ◌∷◌, ℕ, suc, ◌+◌, ◌-◌, ◌*◌, ◌/◌, take, drop}

abbrev pub total : List ℕ → ℕ
total [] = 0
total (x ∷ xs) = x + total xs

-- the sum of the weights at the places below j
abbrev pub upto : List ℕ → ℕ → ℕ
upto ws j = total (take j ws)

-- what the weights up to a sum c bring of W, where all weights sum to D
abbrev pub brings : ℕ → ℕ → ℕ → ℕ
brings W D c = W * c / D

-- part j, as the rule says it
abbrev pub part : ℕ → List ℕ → ℕ → ℕ
part W ws j = brings W (total ws) (upto ws (suc j)) - brings W (total ws) (upto ws j)

-- the parts of W at the weights ws, where D is the sum of all weights and b that of those before
unfoldable pub parts_from : ℕ → ℕ → ℕ → List ℕ → List ℕ
parts_from W D b [] = []
parts_from W D b (w ∷ ws) = (brings W D (b + w) - brings W D b) ∷ parts_from W D (b + w) ws

-- all parts
abbrev pub parts : ℕ → List ℕ → List ℕ
parts W ws = parts_from W (total ws) 0 ws

-- the sum of k neighbours from place i on
abbrev pub stretch : ℕ → ℕ → List ℕ → ℕ
stretch i k xs = total (take k (drop i xs))

-- the weights of an even share
unfoldable pub ones : {A : Type 0} → List A → List ℕ
ones [] = []
ones (x ∷ xs) = 1 ∷ ones xs

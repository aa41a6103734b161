-- What is computed over all bytes holds of each byte.
use Rattle.std.proofs.Common.{◌≡◌, ℕ, ◌<◌, List, map, get_or, sym, ap, ◌∙◌, arith}
use Rattle.std.specs.List.{range_with_len}
use Rattle.std.proofs.lemmas.List.FromFn.{get_or-map-range_with_len}

-- a table that lists f of every byte has f b at b
pub table_at : {X : Type 0} (f : ℕ → X) (d : X) (xs : List X) (b : ℕ) → xs ≡ map f (range_with_len 0 256) → b < 256 → get_or xs b d ≡ f b
table_at f d xs b e h = ap (λ ys. get_or ys b d) e ∙ get_or-map-range_with_len f 0 256 b b d h (omega arith)

-- two functions with the same list of values agree on every byte
pub same_bytes : {X : Type 0} (f g : ℕ → X) (d : X) (b : ℕ) → map f (range_with_len 0 256) ≡ map g (range_with_len 0 256) → b < 256 → f b ≡ g b
same_bytes f g d b e h = sym (get_or-map-range_with_len f 0 256 b b d h (omega arith)) ∙ table_at g d (map f (range_with_len 0 256)) b e h

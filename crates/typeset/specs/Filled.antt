-- What it is to fill lines with words.
use Rattle.std.specs.Prelude.{◌≡◌, ℕ, ◌+◌, ◌<◌, ◌≤◌, List, [], length, slice_index_or}
use Rattle.std.specs.List.{flat_map}
use Rattle.typeset.specs.Lines.{spaced}

-- ls are the words ws set in lines of width w
pub record Filled (w : ℕ) (ws : List (List ℕ)) (ls : List (List (List ℕ))) : Type 0 where
  -- there is a line, even without words
  pub one : 0 < length ls
  -- line after line, they hold the words in their order: none is lost, none comes twice, none is parted
  pub all : flat_map (λ (l : List (List ℕ)). l) ls ≡ ws
  -- no line is wider
  pub within : (r : ℕ) → r < length ls → length (spaced (slice_index_or ls r [])) ≤ w
  -- only a text without words has a line without words
  pub some : 0 < length ws → (r : ℕ) → r < length ls → 0 < length (slice_index_or ls r [])
  -- the first word of the next line and its blank would not have fitted
  pub greedy : (r : ℕ) → r + 1 < length ls → w < length (spaced (slice_index_or ls r [])) + (1 + length (slice_index_or (slice_index_or ls (r + 1) []) 0 []))

-- Tracks: columns or rows of given sizes, with a spacing before each, between them and after the last.
use Rattle.std.specs.Prelude.{ℕ, ◌+◌, ◌-◌, ◌*◌, List, length, take}
use Rattle.share.specs.Share.{total, stretch}

-- where track j begins, from the table's edge
unfoldable pub begins : ℕ → List ℕ → ℕ → ℕ
begins q ws j = q * (j + 1) + total (take j ws)

-- the size of k tracks from track j on, with the spacings between them
unfoldable pub extent : ℕ → List ℕ → ℕ → ℕ → ℕ
extent q ws j k = stretch j k ws + (k - 1) * q

-- all tracks with the spacings around them
unfoldable pub whole : ℕ → List ℕ → ℕ
whole q ws = total ws + q * (length ws + 1)

-- Where a span of free columns is found, and what the code keeps to find it quickly.
use Rattle.std.specs.Prelude.{ℕ, zero, suc, ◌+◌, Bool, true, if◌then◌else◌, ◌&&◌, List, replicate, Some, None, Option, nat_le, slice_index, slice_set}
use Rattle.plan.specs.declared.taken.Taken.{Taken}

module _ (free : ℕ → Bool) where
  -- the first of n columns from j on that is free, or the column after them
  abbrev pub lowest : ℕ → ℕ → ℕ
  lowest j zero = j
  lowest j (suc n) = if free j then j else lowest (suc j) n

  -- all of n columns from j on are free
  abbrev pub clear : ℕ → ℕ → Bool
  clear j zero = true
  clear j (suc n) = free j && clear (suc j) n

  -- a span goes to the lowest free column; the columns that it covers must be there and free
  abbrev pub spot : ℕ → ℕ → Option ℕ
  spot count across = if nat_le (lowest 0 count + across) count && clear (lowest 0 count) across then Some (lowest 0 count) else None

-- no column is taken
abbrev pub none_taken : Taken
none_taken = record { until = replicate 32 0 }

-- column j is free in the row, and so in all rows below it
abbrev pub open_at : Taken → ℕ → ℕ → Bool
open_at x row j = nat_le (slice_index x.until j) row

-- n columns from j on are taken up to the row v
abbrev pub raised : List ℕ → ℕ → ℕ → ℕ → List ℕ
raised xs j zero v = xs
raised xs j (suc n) v = slice_set (raised xs j n v) (j + n) v

abbrev pub taken_to : Taken → ℕ → ℕ → ℕ → Taken
taken_to x j n v = record { until = raised x.until j n v }

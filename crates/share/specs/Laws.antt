-- The laws of the share rule.
use Rattle.std.specs.Prelude.{List, ◌≡◌, ℕ, ◌+◌, ◌*◌, ◌<◌, ◌≤◌, length, slice_index}
use Rattle.share.specs.Share.{total, part, parts, stretch}

pub record Fair (W : ℕ) (ws : List ℕ) : Type 0 where
  -- there is a part for each weight, and each is the rule's
  pub many : length (parts W ws) ≡ length ws
  pub each : (j : ℕ) → j < length ws → slice_index (parts W ws) j ≡ part W ws j
  -- the parts sum to the amount
  pub whole : 0 < total ws → total (parts W ws) ≡ W
  -- no part is above its weight where the amount is not above all weights
  pub within : W ≤ total ws → (j : ℕ) → slice_index (parts W ws) j ≤ slice_index ws j
  -- no stretch of neighbours is off its exact share by 1 or more
  pub above : 0 < total ws → (i k : ℕ) → stretch i k (parts W ws) * total ws < W * stretch i k ws + total ws
  pub below : 0 < total ws → (i k : ℕ) → W * stretch i k ws < stretch i k (parts W ws) * total ws + total ws

-- every share is fair
abbrev pub SharesAreFair : Type 0
SharesAreFair = (W : ℕ) (ws : List ℕ) → Fair W ws

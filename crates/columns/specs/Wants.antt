-- What a cell asks of the columns or rows of its table.
use Rattle.std.specs.Prelude.{ℕ}

-- from the column (or row) `first` on it spans so many, and asks at least `minimum`, and `maximum` where that can be had
pub record Want : Type 0 where
  pub first : ℕ
  pub span : ℕ
  pub minimum : ℕ
  pub maximum : ℕ

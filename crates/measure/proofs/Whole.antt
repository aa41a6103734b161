-- The columns of a table are lent as one part of its array.
-- Assumes nothing.
use Rattle.std.proofs.Common.{◌≡◌, ℕ, ◌-◌, List, length, take, sym, ap, ◌∙◌, arith}
use borrow.Rule.Slice.PartMut.{put_mid}
use Rattle.std.proofs.lemmas.List.{length-take-le}
use Rattle.plan.specs.declared.record.Column.{Column}
use Rattle.plan.specs.declared.record.Table.{Table}
use Rattle.plan.specs.Steps.{columns_of as count_of}
use Rattle.measure.specs.Asks.{own_columns, with_columns}
use Rattle.measure.proofs.Lift.{written}

abbrev holding : Table → List Column → Table
holding b cs = record { columns = cs; count = b.count; spacing = b.spacing; begun = b.begun; reached = b.reached; heights = b.heights; taken = b.taken }

module _ (b : Table) (n : ℕ) (long : length b.columns ≡ 32) (is : n ≡ count_of b) where
  pub own_long : length (own_columns b) ≡ count_of b
  own_long = length-take-le (count_of b) b.columns (omega arith)

  pub part_is : take (n - 0) b.columns ≡ own_columns b
  part_is = let e : n - 0 ≡ count_of b = omega arith in ap (λ k. take k b.columns) e

  pub columns_written : (f : List Column → List Column) (ys : List Column) → ys ≡ f (own_columns b) → holding b (put_mid 0 (n - 0) b.columns ys) ≡ with_columns f b
  columns_written f ys e =
      ap (holding b) (written f 0 (count_of b) (n - 0) b.columns ys (omega arith) (omega arith) (e ∙ ap f (sym part_is)))

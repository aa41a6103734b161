-- Told by the code's record of taken columns or by the cells, a cell goes to the same place.
use Rattle.std.proofs.Common.{◌≡◌, ℕ, ◌+◌, Bool, cond, ◌&&◌, eqb, Some, None, Err, Option, refl, ap, arith}
use mathlib.Core.Logic.{∥∥₁_elim}
use denote.Struct.Props.{props}
use Rattle.std.specs.List.{slice_get}
use Rattle.fault.specs.Numbers.{fault}
use Rattle.fault.specs.declared.Reason.TheVariants.{NoRow, OutOfRange}
use Rattle.plan.specs.declared.record.Table.{Table}
use Rattle.plan.specs.Done.{by_record}
use Rattle.plan.specs.Steps.{columns_of, current_row, spot_to, column_for, span_range, table_range, place_in, place_at, place_lists, nest_in, nest_at, nest_lists}
use Rattle.plan.proofs.Spots.{spot_same}
use Rattle.plan.specs.Cells.{by_cells}
use Rattle.runs.specs.State.{State}
use Rattle.runs.specs.Calls.{Reached}
use Rattle.runs.specs.Laws.{RecordTied}
use Rattle.runs.proofs.Good.{sound_reached}

pub tied_reached : (s : State) → ∥ Reached s ∥₁ → RecordTied s
tied_reached s t u b e r j low inside = ∥∥₁_elim t (hlevel props) (λ z. (sound_reached s z).standing.tied u b e r j low inside)

module _ (s : State) (tied : RecordTied s) (t across down : ℕ) where
  abbrev cells_tell : ℕ → Table → ℕ → Bool
  cells_tell = by_cells s.cells.items

  column_same : (b : Table) → slice_get s.tables.items t ≡ Some b → column_for (by_record t b) b across down ≡ column_for (cells_tell t b) b across down
  column_same b e =
      ap (λ o. cond (eqb b.begun 0) (Err (fault NoRow 0)) (spot_to (current_row b + down) o))
      (spot_same (by_record t b) (cells_tell t b) (columns_of b) across (λ j h. tied t b e (current_row b) j (omega arith) h))

  place_at_same : (content : ℕ) (o : Option Table) → slice_get s.tables.items t ≡ o → place_at by_record s.tables s.cells t across down content o ≡ place_at cells_tell s.tables s.cells t across down content o
  place_at_same content None e = refl
  place_at_same content (Some b) e = ap (place_in by_record s.tables s.cells t across down content b) (column_same b e)

  pub place_same : (content : ℕ) → place_lists by_record s.tables s.cells t across down content ≡ place_lists cells_tell s.tables s.cells t across down content
  place_same content = ap (λ r. cond (span_range across down) r (Err (fault OutOfRange 0))) (place_at_same content (slice_get s.tables.items t) refl)

  nest_at_same : (n q : ℕ) (o : Option Table) → slice_get s.tables.items t ≡ o → nest_at by_record s.tables s.cells t across down n q o ≡ nest_at cells_tell s.tables s.cells t across down n q o
  nest_at_same n q None e = refl
  nest_at_same n q (Some b) e = ap (nest_in by_record s.tables s.cells t across down n q b) (column_same b e)

  pub nest_same : (n q : ℕ) → nest_lists by_record s.tables s.cells t across down n q ≡ nest_lists cells_tell s.tables s.cells t across down n q
  nest_same n q = ap (λ r. cond (span_range across down && table_range n q) r (Err (fault OutOfRange 0))) (nest_at_same n q (slice_get s.tables.items t) refl)

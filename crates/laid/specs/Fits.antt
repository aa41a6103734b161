-- The relation of a laid sheet: when its measures fit what a shelf means and an offer.
use Rattle.std.specs.Prelude.{◌≡◌, ℕ, ◌≤◌, true, List, map, Some}
use Rattle.std.specs.List.{slice_get}
use Rattle.shelf.specs.Shelves.{Meaning, widest}
use Rattle.plan.specs.declared.record.Cell.{Cell}
use Rattle.plan.specs.declared.record.Column.{Column}
use Rattle.plan.specs.declared.record.Holds.TheVariants.{Content}
use Rattle.plan.specs.declared.record.Table.{Table}
use Rattle.columns.specs.Columns.{columns_of, rows_of, widths_of, least_width}
use Rattle.columns.specs.Tables.{own_columns, widths, heights, row_count, as_wide}
use Rattle.columns.specs.Tracks.{whole}
use Rattle.laid.specs.Views.{holder}
use Rattle.laid.specs.Layout.{wants, row_wants, offer_of, corner, rect_in, clear_column, tallest}

-- a column without its width
abbrev pub bare : Column → Column
bare c = as_wide 0 c

-- the columns of table t, which is b, are those of the column rule for what its cells ask
abbrev pub ColumnsFit : Meaning → List Table → List Cell → ℕ → Table → Type 0
ColumnsFit m ts cs t b = map bare (own_columns b) ≡ columns_of b.spacing (map clear_column (own_columns b)) (wants m ts cs t b)

pub record TableFits (m : Meaning) (A : ℕ) (ts : List Table) (cs : List Cell) (t : ℕ) (b : Table) : Type 0 where
  pub columns_fit : ColumnsFit m ts cs t b
  -- its widths are those of the offer rule at its offer
  pub widths_fit : widths b ≡ widths_of b.spacing (own_columns b) (offer_of A cs ts t)
  -- its rows are those of the row rule
  pub heights_fit : heights b ≡ rows_of b.spacing (row_count b) (row_wants m ts cs t b)

-- what cell i holds, if it is a content, is on the shelf
abbrev pub Shelved : Meaning → List Cell → ℕ → Type 0
Shelved m cs i = (c : Cell) (k : ℕ) → slice_get cs i ≡ Some c → c.holds ≡ Content k → m.has k ≡ true

-- the least width of table t is at most 2,000, and its height at most 20,000
abbrev pub Narrow : List Table → ℕ → Type 0
Narrow ts t = (b : Table) → slice_get ts t ≡ Some b → least_width b.spacing (own_columns b) ≤ widest

abbrev pub Low : List Table → ℕ → Type 0
Low ts t = (b : Table) → slice_get ts t ≡ Some b → whole b.spacing (heights b) ≤ tallest

pub record Fits (m : Meaning) (A : ℕ) (ts : List Table) (cs : List Cell) : Type 0 where
  pub shelved : (i : ℕ) → Shelved m cs i
  pub narrow : (t : ℕ) → Narrow ts t
  pub low : (t : ℕ) → Low ts t
  pub tables_fit : (t : ℕ) (b : Table) → slice_get ts t ≡ Some b → TableFits m A ts cs t b
  -- a box stands where its columns and rows begin; an inner table at the left top corner of the cell that holds it
  pub boxes_fit : (i : ℕ) (c : Cell) (b : Table) → slice_get cs i ≡ Some c → slice_get ts c.table ≡ Some b →
      c.rect ≡ rect_in b (corner cs (holder c.table cs)) c

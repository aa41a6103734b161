-- What is seen of tables and cells by their numbers.
use Rattle.std.specs.Prelude.{ℕ, suc, Bool, false, if◌then◌else◌, List, [], ◌∷◌, Some, None, filter, Option, ◌==◌}
use Rattle.std.specs.List.{slice_get}
use Rattle.plan.specs.declared.record.Axis.{Axis}
use Rattle.plan.specs.declared.record.Cell.{Cell}
use Rattle.plan.specs.declared.record.Holds.{Holds}
use Rattle.plan.specs.declared.record.Holds.TheVariants.{Content, Inner}
use Rattle.plan.specs.declared.record.Table.{Table}
use Rattle.columns.specs.Columns.{least_width, greatest_width}
use Rattle.columns.specs.Tables.{own_columns, widths, heights, track_count, lies_in}
use Rattle.columns.specs.Tracks.{extent, whole}

-- what f says of what is there, or d where nothing is
abbrev pub seen : {A X : Type 0} → (A → X) → X → Option A → X
seen f d None = d
seen f d (Some a) = f a

-- the least and the greatest width of table u, and its height
unfoldable pub least_in : List Table → ℕ → ℕ
least_in ts u = seen (λ (b : Table). least_width b.spacing (own_columns b)) 0 (slice_get ts u)

unfoldable pub greatest_in : List Table → ℕ → ℕ
greatest_in ts u = seen (λ (b : Table). greatest_width b.spacing (own_columns b)) 0 (slice_get ts u)

unfoldable pub height_in : List Table → ℕ → ℕ
height_in ts u = seen (λ (b : Table). whole b.spacing (heights b)) 0 (slice_get ts u)

-- a cell of table b is as wide as its columns and the spacings between them, and as tall as its rows likewise
abbrev pub wide_in : Table → Cell → ℕ
wide_in b c = extent b.spacing (widths b) c.column c.across

abbrev pub tall_in : Table → Cell → ℕ
tall_in b c = extent b.spacing (heights b) c.row c.down

-- how wide a cell is, in the table that it names
unfoldable pub cell_width : List Table → Cell → ℕ
cell_width ts c = seen (λ b. wide_in b c) 0 (slice_get ts c.table)

-- the cells of table t, which is b, in the order of their numbers
abbrev pub cells_of : Axis → ℕ → Table → List Cell → List Cell
cells_of x t b cs = filter (lies_in x t (track_count x b)) cs

-- the cell holds table t
abbrev pub holds_table : ℕ → Holds → Bool
holds_table t (Content k) = false
holds_table t (Inner u) = u == t

unfoldable pub holder_from : ℕ → ℕ → List Cell → Option ℕ
holder_from t i [] = None
holder_from t i (c ∷ cs) = if holds_table t c.holds then Some i else holder_from t (suc i) cs

-- the number of the cell that holds table t; the outermost table is held by none
abbrev pub holder : ℕ → List Cell → Option ℕ
holder t cs = if t == 0 then None else holder_from t 0 cs

-- the cell of that number
abbrev pub cell_at : List Cell → Option ℕ → Option Cell
cell_at cs None = None
cell_at cs (Some i) = slice_get cs i

-- The layout call: what it answers, and what it leaves of the sheet's lists.
use Rattle.std.specs.Prelude.{ℕ, Bool, if◌then◌else◌, map, length, Ok, Err, Result, ◌==◌, nat_le}
use Rattle.std.specs.List.{slice_get}
use Rattle.fault.specs.Numbers.{fault, number_of}
use Rattle.fault.specs.declared.Fault.{Fault}
use Rattle.fault.specs.declared.Reason.TheVariants.{OutOfRange, NotFound}
use Rattle.shelf.specs.Shelves.{Meaning, widest}
use Rattle.plan.specs.declared.record.Cell.{Cell}
use Rattle.plan.specs.declared.record.Table.{Table}
use Rattle.plan.specs.Steps.{from_to}
use Rattle.plan.specs.Stock.{Stock}
use Rattle.columns.specs.Columns.{overflow_of}
use Rattle.columns.specs.Tables.{own_columns, widths, heights}
use Rattle.columns.specs.Tracks.{whole}
use Rattle.laid.specs.Views.{seen}
use Rattle.laid.specs.Layout.{Lists, layout, clear_table, clear_cell}

-- how wide and high table 0 is, and by how much the offer falls short of its least width
pub record Size : Type 0 where
  pub width : ℕ
  pub height : ℕ
  pub overflow : ℕ

abbrev pub size_in : ℕ → Table → Size
size_in A b =
    record {
      width = whole b.spacing (widths b);
      height = whole b.spacing (heights b);
      overflow = overflow_of b.spacing (own_columns b) A;
    }

abbrev pub size_of : ℕ → Lists → Size
size_of A l = seen (size_in A) (record { width = 0; height = 0; overflow = 0 }) (slice_get l.tables 0)

-- what an accepted layout answers, and its lists then
pub record Laying : Type 0 where
  pub size : Size
  pub tables : Stock Table
  pub cells : Stock Cell

abbrev pub lay_in : ℕ → Stock Table → Stock Cell → Result Lists Fault → Result Laying Fault
lay_in A ts cs (Err f) = Err f
lay_in A ts cs (Ok l) =
    Ok (record {
      size = size_of A l;
      tables = record { items = l.tables; spare = ts.spare };
      cells = record { items = l.cells; spare = cs.spare };
    })

-- an offer from 1 to 2,000, and a sheet that is started
abbrev pub lay : Meaning → ℕ → Stock Table → Stock Cell → Result Laying Fault
lay m A ts cs =
    if from_to 1 widest A
    then (if length ts.items == 0 then Err (fault NotFound 0) else lay_in A ts cs (layout m A ts.items cs.items))
    else Err (fault OutOfRange 0)

-- a layout that is declined by its arguments, with 1 or 2, measures nothing
abbrev pub by_arguments : Fault → Bool
by_arguments f = nat_le (number_of f.reason) 2

-- every measure 0
abbrev pub clear_tables : Stock Table → Stock Table
clear_tables ts = record { items = map clear_table ts.items; spare = ts.spare }

abbrev pub clear_cells : Stock Cell → Stock Cell
clear_cells cs = record { items = map clear_cell cs.items; spare = cs.spare }

-- a declined layout leaves all as it was, or else every measure 0
abbrev pub tables_left : Fault → Stock Table → Stock Table
tables_left f ts = if by_arguments f then ts else clear_tables ts

abbrev pub cells_left : Fault → Stock Cell → Stock Cell
cells_left f cs = if by_arguments f then cs else clear_cells cs

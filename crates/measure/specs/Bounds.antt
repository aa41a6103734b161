-- The two bounds of a column's width, so that the pass over the leasts and that over the greatests are one.
use Rattle.std.specs.Prelude.{ℕ, Bool, false, List, map}
use Rattle.share.specs.Share.{parts}
use Rattle.plan.specs.declared.record.Column.{Column}
use Rattle.columns.specs.Columns.{more_least, more_greatest, need, weight, none_free, with_parts}
use Rattle.measure.specs.declared.column.Bound.{Bound}
use Rattle.measure.specs.declared.column.Bound.TheVariants.{Least, Greatest}

abbrev pub bound_of : Bound → Column → ℕ
bound_of Least c = c.least
bound_of Greatest c = c.greatest

abbrev pub more : Bound → ℕ → Column → Column
more Least p c = more_least p c
more Greatest p c = more_greatest p c

-- the fixed columns share too: only for the leasts, and where no column is free
abbrev pub all_share : Bound → List Column → Bool
all_share Least cs = none_free cs
all_share Greatest cs = false

-- what m asks of the bound over a span is shared over its columns
unfoldable pub meet : Bound → ℕ → ℕ → ℕ → List Column → List Column
meet b q s m cs = with_parts (more b) (parts (need q s m (map (bound_of b) cs)) (map (weight (all_share b cs)) cs)) cs

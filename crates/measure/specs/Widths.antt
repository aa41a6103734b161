-- The widths that an offer gives, as the columns then hold them.
use Rattle.std.specs.Prelude.{ℕ, List, [], ◌∷◌}
use Rattle.plan.specs.declared.record.Column.{Column}
use Rattle.plan.specs.declared.record.Table.{Table}
use Rattle.columns.specs.Columns.{widths_of}
use Rattle.measure.specs.Asks.{with_columns}

-- column c at width w
abbrev pub as_wide : ℕ → Column → Column
as_wide w c = record { sizing = c.sizing; least = c.least; greatest = c.greatest; width = w }

-- each column at its width
abbrev pub with_widths : List ℕ → List Column → List Column
with_widths [] cs = cs
with_widths (w ∷ ws) [] = []
with_widths (w ∷ ws) (c ∷ cs) = as_wide w c ∷ with_widths ws cs

-- the columns with spacing q after an offer of A
abbrev pub given_of : ℕ → ℕ → List Column → List Column
given_of q A cs = with_widths (widths_of q cs A) cs

-- table b after an offer of A
abbrev pub offered_to : Table → ℕ → Table
offered_to b A = with_columns (given_of b.spacing A) b

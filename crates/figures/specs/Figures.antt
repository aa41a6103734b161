-- The worked figures: what the rules state, beside what the definitions reckon.
use Rattle.std.specs.Prelude.{◌≡◌, List, [], ◌∷◌, map, ℕ, codes}
use Rattle.letters.specs.declared.Kind.TheVariants.{Text}
use Rattle.shelf.specs.Shelves.{Meaning}
use Rattle.plan.specs.declared.record.Column.{Column}
use Rattle.plan.specs.declared.record.Sizing.TheVariants.{Free, Fixed}
use Rattle.share.specs.Share.{parts}
use Rattle.columns.specs.Columns.{leasts, columns_of, least_width, greatest_width, widths_of, overflow_of}
use Rattle.columns.specs.Wants.{Want}
use Rattle.text.specs.Places.{contents}

-- numbers that the rules state for an example, and the same as the definitions reckon them
pub record Figure : Type 0 where
  pub stated : List ℕ
  pub reckoned : List ℕ

-- the text "a bb ccc" as content 0
abbrev sample : Meaning
sample = contents Text (codes "a bb ccc") (record { from = 0; to = 8 } ∷ [])

-- a column that is free, and one that is fixed at f
abbrev free_column : ℕ → ℕ → Column
free_column a z = record { sizing = Free; least = a; greatest = z; width = 0 }

abbrev fixed_column : ℕ → Column
fixed_column f = record { sizing = Fixed f; least = 0; greatest = 0; width = 0 }

-- a cell that asks for m, no less and no more
abbrev asks : ℕ → ℕ → ℕ → Want
asks first span m = record { first = first; span = span; minimum = m; maximum = m }

-- two columns with the leasts 4 and 6 and the greatests 10 and 20
abbrev two : List Column
two = free_column 4 10 ∷ free_column 6 20 ∷ []

-- two cells that ask for 3, and one over both that asks for 12
abbrev three : List Want
three = asks 0 1 3 ∷ asks 1 1 3 ∷ asks 0 2 12 ∷ []

abbrev pub figures : List Figure
figures =
    -- its widths
    record { stated = 3 ∷ 8 ∷ []; reckoned = sample.minimum 0 ∷ sample.maximum 0 ∷ [] } ∷
    -- its height at width 3, and at width 4
    record { stated = 3 ∷ []; reckoned = sample.height 0 3 ∷ [] } ∷
    record { stated = 2 ∷ []; reckoned = sample.height 0 4 ∷ [] } ∷
    -- 7 shared over 1, 2 and 3, and 2 over 1, 1 and 1
    record { stated = 1 ∷ 2 ∷ 4 ∷ []; reckoned = parts 7 (1 ∷ 2 ∷ 3 ∷ []) } ∷
    record { stated = 0 ∷ 1 ∷ 1 ∷ []; reckoned = parts 2 (1 ∷ 1 ∷ 1 ∷ []) } ∷
    -- the least and the greatest width of the two columns with spacing 1
    record { stated = 13 ∷ 33 ∷ []; reckoned = least_width 1 two ∷ greatest_width 1 two ∷ [] } ∷
    -- by how much an offer of 12 falls short, and the widths at the offers 12, 13, 20, 33 and 34
    record { stated = 1 ∷ 4 ∷ 6 ∷ []; reckoned = overflow_of 1 two 12 ∷ widths_of 1 two 12 } ∷
    record { stated = 4 ∷ 6 ∷ []; reckoned = widths_of 1 two 13 } ∷
    record { stated = 6 ∷ 11 ∷ []; reckoned = widths_of 1 two 20 } ∷
    record { stated = 10 ∷ 20 ∷ []; reckoned = widths_of 1 two 33 } ∷
    record { stated = 10 ∷ 20 ∷ []; reckoned = widths_of 1 two 34 } ∷
    -- the leasts of two columns for the three cells, both free, and the first fixed at 3
    record { stated = 5 ∷ 6 ∷ []; reckoned = leasts (columns_of 1 (free_column 0 0 ∷ free_column 0 0 ∷ []) three) } ∷
    record { stated = 3 ∷ 8 ∷ []; reckoned = leasts (columns_of 1 (fixed_column 3 ∷ free_column 0 0 ∷ []) three) } ∷
    []

-- every figure is as stated
abbrev pub FiguresHold : Type 0
FiguresHold = map (λ (f : Figure). f.reckoned) figures ≡ map (λ (f : Figure). f.stated) figures

-- Records before anything is placed or measured.
use Rattle.std.specs.Prelude.{ℕ, replicate}
use Rattle.plan.specs.declared.record.Cell.{Cell}
use Rattle.plan.specs.declared.record.Column.{Column}
use Rattle.plan.specs.declared.record.Rect.{Rect}
use Rattle.plan.specs.declared.record.Table.{Table}
use Rattle.plan.specs.declared.record.Holds.TheVariants.{Content}
use Rattle.plan.specs.declared.record.Sizing.TheVariants.{Free}
use Rattle.plan.specs.Taken.{none_taken}

abbrev pub no_rect : Rect
no_rect = record { left = 0; top = 0; width = 0; height = 0 }

-- a column that is free, with measures 0
abbrev pub blank_column : Column
blank_column = record { sizing = Free; least = 0; greatest = 0; width = 0 }

-- a table of n free columns and spacing q, without rows
abbrev pub blank_table : ℕ → ℕ → Table
blank_table n q = record {
  columns = replicate 32 blank_column;
  count = n;
  spacing = q;
  begun = 0;
  reached = 0;
  heights = replicate 64 0;
  taken = none_taken;
}

abbrev pub blank_cell : Cell
blank_cell = record { table = 0; row = 0; column = 0; across = 0; down = 0; holds = Content 0; rect = no_rect }

-- What a run did, told by its calls: what was made keeps its number, and columns are as last set.
use Rattle.std.specs.Prelude.{◌≡◌, ℕ, if◌then◌else◌, ◌&&◌, List, [], ◌∷◌, ◌++◌, is_ok, Some, None, Ok, Option, ◌==◌, slice_index_or}
use Rattle.std.specs.List.{slice_get}
use Rattle.plan.specs.declared.record.Cell.{Cell}
use Rattle.plan.specs.declared.record.Holds.{Holds}
use Rattle.plan.specs.declared.record.Holds.TheVariants.{Content, Inner}
use Rattle.plan.specs.declared.record.Sizing.{Sizing}
use Rattle.plan.specs.declared.record.Sizing.TheVariants.{Free}
use Rattle.plan.specs.declared.record.Table.{Table}
use Rattle.plan.specs.Blank.{blank_column}
use Rattle.plan.specs.Steps.{sizing_of}
use Rattle.runs.specs.State.{State}
use Rattle.runs.specs.Calls.{Call, Start, Row, Place, Nest, Width, Number, wanted, next, run}
use Rattle.runs.specs.Laws.{Planned}

-- cell i is in table t, spans so many columns and rows, and holds that
pub record Stands (s : State) (i t across down : ℕ) (holds : Holds) : Type 0 where
  pub some : ∥ ((c : Cell) × (slice_get s.cells.items i ≡ Some c)) ∥₁
  pub is : (c : Cell) → slice_get s.cells.items i ≡ Some c → (c.table ≡ t) × (c.across ≡ across) × (c.down ≡ down) × (c.holds ≡ holds)

-- table i has n columns and the spacing q
pub record Shaped (s : State) (i n q : ℕ) : Type 0 where
  pub some : ∥ ((b : Table) × (slice_get s.tables.items i ≡ Some b)) ∥₁
  pub is : (b : Table) → slice_get s.tables.items i ≡ Some b → (b.count ≡ n) × (b.spacing ≡ q)

-- the cell that holds table i is in table t and spans so many columns and rows
abbrev pub Hangs : State → ℕ → ℕ → ℕ → ℕ → Type 0
Hangs s i t across down = (k : ℕ) (c : Cell) → slice_get s.cells.items k ≡ Some c → c.holds ≡ Inner i → (c.table ≡ t) × (c.across ≡ across) × (c.down ≡ down)

-- how column j of table t is sized, free where there is none
abbrev pub sizing_in : Option Table → ℕ → Sizing
sizing_in None j = Free
sizing_in (Some b) j = (slice_index_or b.columns j blank_column).sizing

abbrev pub sizing_at : State → ℕ → ℕ → Sizing
sizing_at s t j = sizing_in (slice_get s.tables.items t) j

-- how a column is sized after a call: an accepted width of just this column sets it
abbrev pub set_by : State → Call → ℕ → ℕ → Sizing → Sizing
set_by s (Start n q) t j z = z
set_by s (Row u) t j z = z
set_by s (Place u content across down) t j z = z
set_by s (Nest u across down n q) t j z = z
set_by s (Width u i f) t j z = if is_ok (wanted s (Width u i f)) && (u == t && i == j) then sizing_of f else z

-- how a column is sized after calls: as last set
abbrev pub last_set : State → List Call → ℕ → ℕ → Sizing → Sizing
last_set s [] t j z = z
last_set s (c ∷ cs) t j z = last_set (next s c) cs t j (set_by s c t j z)

-- after the calls from the state s
pub record Told (s : State) (calls : List Call) : Type 0 where
  pub planned : Planned (run s calls)
  -- what place answered is the number of its cell, and stays so
  pub placed :
      (before after : List Call) (t content across down i : ℕ) (m : State) →
      calls ≡ before ++ Place t content across down ∷ after →
      wanted (run s before) (Place t content across down) ≡ Ok (record { answer = Number i; after = m }) →
      Stands (run s calls) i t across down (Content content)
  -- what nest answered is the number of its table, and stays so
  pub nested :
      (before after : List Call) (t across down n q i : ℕ) (m : State) →
      calls ≡ before ++ Nest t across down n q ∷ after →
      wanted (run s before) (Nest t across down n q) ≡ Ok (record { answer = Number i; after = m }) →
      Shaped (run s calls) i n q × Hangs (run s calls) i t across down
  -- columns are as last set
  pub sized : (t j : ℕ) → sizing_at (run s calls) t j ≡ last_set s calls t j (sizing_at s t j)

-- What a call over lent lists did: what was wanted of it, or nothing at all.
use Rattle.std.specs.Prelude.{◌≡◌, ℕ, Bool, Ok, Err, Result}
use Rattle.fault.specs.declared.Fault.{Fault}
use Rattle.list.specs.declared.store.List as Lent
use Rattle.plan.specs.declared.record.Cell.{Cell}
use Rattle.plan.specs.declared.record.Table.{Table}
use Rattle.plan.specs.Stock.{Stock, held}
use Rattle.plan.specs.Steps.{Added, current_row}
use Rattle.plan.specs.Taken.{open_at}

-- a change of the tables alone
abbrev pub Changed : Result (Stock Table) Fault → Lent.List Table → Lent.List Table → Result Unit Fault → Type 0
Changed want ts ts' (Ok _) = want ≡ Ok (held ts')
Changed want ts ts' (Err f) = (want ≡ Err f) × (ts' ≡ ts)

-- a cell more, of the number i
pub record Grew (want : Result Added Fault) (ts' : Lent.List Table) (cs' : Lent.List Cell) (i : ℕ) : Type 0 where
  pub is : want ≡ Ok (record { answer = i; tables = held ts'; cells = held cs' })

pub record Stayed (want : Result Added Fault) (ts ts' : Lent.List Table) (cs cs' : Lent.List Cell) (f : Fault) : Type 0 where
  pub is : want ≡ Err f
  pub tables_same : ts' ≡ ts
  pub cells_same : cs' ≡ cs

abbrev pub Placed : Result Added Fault → Lent.List Table → Lent.List Table → Lent.List Cell → Lent.List Cell → Result ℕ Fault → Type 0
Placed want ts ts' cs cs' (Ok i) = Grew want ts' cs' i
Placed want ts ts' cs cs' (Err f) = Stayed want ts ts' cs cs' f

-- the code's own record of taken columns, as what tells whether a column is free
abbrev pub by_record : ℕ → Table → ℕ → Bool
by_record t b j = open_at b.taken (current_row b) j

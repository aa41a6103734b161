-- What is reached after each change of the lists.
use Rattle.std.proofs.Common.{◌≡◌, ℕ, Bool, false, Ok, Err, Result, sym, refl, ap, ◌∙◌, subst}
use Rattle.fault.specs.declared.Fault.{Fault}
use Rattle.list.specs.declared.store.List as Lent
use Rattle.plan.specs.declared.record.Cell.{Cell}
use Rattle.plan.specs.declared.record.Table.{Table}
use Rattle.plan.specs.Done.{Changed, Grew, by_record}
use Rattle.plan.specs.Steps.{Added, place_lists, nest_lists}
use Rattle.plan.specs.Stock.{Stock, held}
use Rattle.runs.specs.State.{State, state_of}
use Rattle.runs.specs.Calls.{Call, Place, Nest, Done, Number, changed, added, wanted, Reached}
use Rattle.engine.proofs.Same.{same_sheet}
use Rattle.engine.specs.View.{state, DidSo}
use Rattle.engine.specs.declared.hold.Sheet.{Sheet}
use Rattle.runs.proofs.Planned.{reached_by}
use Rattle.runs.proofs.Same.{tied_reached, place_same, nest_same}

module _ (ts ts' : Lent.List Table) (cs : Lent.List Cell) (laid to : Bool) (c : Call) (want : Result (Stock Table) Fault) (is : wanted (state_of ts cs laid) c ≡ changed (state_of ts cs laid) to want) where
  -- the call was accepted
  pub reached_changed : want ≡ Ok (held ts') → ∥ Reached (state_of ts cs laid) ∥₁ → ∥ Reached (state_of ts' cs to) ∥₁
  reached_changed e t =
      reached_by (state_of ts cs laid) (state_of ts' cs to) c (record { answer = Done; after = state_of ts' cs to }) (is ∙ ap (changed (state_of ts cs laid) to) e) refl t

  -- accepted or declined, where the flag stays as it is
  pub reached_either : to ≡ laid → (r : Result Unit Fault) → Changed want ts ts' r → ∥ Reached (state_of ts cs laid) ∥₁ → ∥ Reached (state_of ts' cs laid) ∥₁
  reached_either stays (Ok _) e t = subst (λ b. ∥ Reached (state_of ts' cs b) ∥₁) stays (reached_changed e t)
  reached_either stays (Err f) e t = subst (λ l. ∥ Reached (state_of l cs laid) ∥₁) (sym e.1) t

-- a cell more
module _ (ts ts' : Lent.List Table) (cs cs' : Lent.List Cell) (laid : Bool) (c : Call) (want : Result Added Fault) (is : wanted (state_of ts cs laid) c ≡ added want) (i : ℕ) (e : Grew want ts' cs' i) where
  pub added_so : wanted (state_of ts cs laid) c ≡ Ok (record { answer = Number i; after = state_of ts' cs' false })
  added_so = is ∙ ap added e.is

  pub reached_added : ∥ Reached (state_of ts cs laid) ∥₁ → ∥ Reached (state_of ts' cs' false) ∥₁
  reached_added t = reached_by (state_of ts cs laid) (state_of ts' cs' false) c (record { answer = Number i; after = state_of ts' cs' false }) added_so refl t

-- place and nest, as the code's record of taken columns tells, are the calls that the cells tell
module _ (s : State) (reached : ∥ Reached s ∥₁) (t across down : ℕ) where
  pub place_is : (content : ℕ) → wanted s (Place t content across down) ≡ added (place_lists by_record s.tables s.cells t across down content)
  place_is content = ap added (sym (place_same s (tied_reached s reached) t across down content))

  pub nest_is : (n q : ℕ) → wanted s (Nest t across down n q) ≡ added (nest_lists by_record s.tables s.cells t across down n q)
  nest_is n q = ap added (sym (nest_same s (tied_reached s reached) t across down n q))

-- a call that changes the tables alone, where the flag stays as it is
module _ (m : Sheet) (ts : Lent.List Table) (reached : ∥ Reached (state_of ts m.cells m.laid) ∥₁) (want : Result (Stock Table) Fault) where
  abbrev after : Sheet
  after = record { tables = ts; cells = m.cells; laid = m.laid; reached = reached }

  pub did_changed : (r : Result Unit Fault) → Changed want m.tables ts r → DidSo (changed (state m) m.laid want) m after r
  did_changed (Ok _) e = ap (changed (state m) m.laid) e
  did_changed (Err f) e = (ap (changed (state m) m.laid) e.0, same_sheet after m e.1 refl refl)

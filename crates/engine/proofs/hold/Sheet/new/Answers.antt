use Rattle.std.proofs.Common.{◌≡◌, false, List, [], sym, subst}
use Rattle.list.specs.Held.{items, spare}
use Rattle.list.specs.declared.store.List as Lent
use Rattle.plan.specs.declared.record.Cell.{Cell}
use Rattle.plan.specs.declared.record.Table.{Table}
use Rattle.plan.specs.Stock.{held}
use Rattle.runs.specs.State.{state_of, empty}
use Rattle.runs.specs.Calls.{Reached}
use Rattle.runs.specs.History.{Told}
use Rattle.runs.proofs.Good.{sound_empty}
use Rattle.runs.proofs.History.{told}
use Rattle.runs.proofs.Planned.{reached_empty}
use Rattle.engine.proofs.hold.Sheet.new.Goals as goal

-- a new list holds no item, and its places are as lent
new_stock : {A : Type 0} (l : Lent.List A) (xs : List A) → items l ≡ [] → spare l ≡ xs → held l ≡ record { items = []; spare = xs }
new_stock l xs p q = λ i. record { items = p i; spare = q i }

-- two new lists are an empty sheet
emptied : (ts : Lent.List Table) (cs : Lent.List Cell) (xs : List Table) (ys : List Cell) → items ts ≡ [] → spare ts ≡ xs → items cs ≡ [] → spare cs ≡ ys → state_of ts cs false ≡ empty xs ys
emptied ts cs xs ys a b c d = λ i. record { tables = new_stock ts xs a b i; cells = new_stock cs ys c d i; laid = false }

pub invariant_of-result : goal.invariant_of-result
invariant_of-result c =
    let e = emptied c.new.result c.new-2.result c.args.tables.now c.args.cells.now c.new.ensures.items c.new.ensures.spare c.new-2.ensures.items c.new-2.ensures.spare in
    record { reached = subst (λ s. ∥ Reached s ∥₁) (sym e) (reached_empty c.args.tables.now c.args.cells.now) }

pub returns-clause-runs : goal.returns-clause-runs
returns-clause-runs c =
    let e = emptied c.new.result c.new-2.result c.args.tables.now c.args.cells.now c.new.ensures.items c.new.ensures.spare c.new-2.ensures.items c.new-2.ensures.spare in
    λ calls. subst (λ s. Told s calls) (sym e) (told (empty c.args.tables.now c.args.cells.now) calls (sound_empty c.args.tables.now c.args.cells.now))

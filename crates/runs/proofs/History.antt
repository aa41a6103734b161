-- What a run did is what its sheet tells.
use Rattle.std.proofs.Common.{◌≡◌, ℕ, List, [], ◌∷◌, ◌++◌, length, set, Some, Ok, Err, Result, sym, refl, ap, ◌∙◌, subst, arith, length-set}
use Rattle.std.specs.List.{slice_get}
use Rattle.fault.specs.declared.Fault.{Fault}
use Rattle.plan.specs.declared.record.Cell.{Cell}
use Rattle.plan.specs.declared.record.Holds.{Holds}
use Rattle.plan.specs.declared.record.Holds.TheVariants.{Content, Inner}
use Rattle.plan.specs.declared.record.Table.{Table}
use Rattle.plan.specs.Blank.{blank_table}
use Rattle.plan.specs.Stock.{Stock, with_new, with_item}
use Rattle.plan.specs.Steps.{Added, place_lists, nest_lists, new_cell}
use Rattle.plan.specs.Cells.{by_cells}
use Rattle.runs.specs.State.{State}
use Rattle.runs.specs.Calls.{Call, Place, Nest, Answer, Done, Number, Outcome, added, wanted, after_of, next, run}
use Rattle.runs.specs.History.{Stands, Shaped, Hangs, Told}
use Rattle.runs.proofs.Planned.{planned}
use Rattle.runs.proofs.Sized.{sized_run}
use Rattle.runs.proofs.Lists.{nth_same, nth_last}
use Rattle.runs.proofs.Accepted.{ok_same, place_told, nest_told}
use Rattle.runs.proofs.Good.{Sound, sound_run}
use Rattle.runs.proofs.Grows.{Grows, grows_run}

run_append : (s : State) (before after : List Call) (c : Call) → run s (before ++ c ∷ after) ≡ run (next (run s before) c) after
run_append s [] after c = refl
run_append s (d ∷ before) after c = run_append (next s d) before after c

abbrev number_in : Answer → ℕ
number_in Done = 0
number_in (Number i) = i

-- what an answer of a call that adds a cell tells
added_told : (r : Result Added Fault) (i : ℕ) (m : State) → added r ≡ Ok (record { answer = Number i; after = m }) → (a : Added) × ((r ≡ Ok a) × (a.answer ≡ i) × (a.cells ≡ m.cells) × (a.tables ≡ m.tables))
added_told (Err f) i m e = let z : ◌≡◌ {A = ℕ} 0 1 = cc in absurd (omega arith)
added_told (Ok a) i m e =
    let p = ok_same _ _ e in
    (a, (refl, ap (λ (o : Outcome). number_in o.answer) p, ap (λ (o : Outcome). o.after.cells) p, ap (λ (o : Outcome). o.after.tables) p))

stands_later : (s m : State) (i t across down : ℕ) (holds : Holds) (c : Cell) → slice_get s.cells.items i ≡ Some c → c.table ≡ t → c.across ≡ across → c.down ≡ down → c.holds ≡ holds → Grows s m → Stands m i t across down holds
stands_later s m i t across down holds c there et ea ed eh g =
    let p = g.cells i c there in
    let like = p.1.1 in
    record {
      some = ∣ (p.0, p.1.0) ∣₁;
      is = λ d e.
          let same : p.0 ≡ d = nth_same m.cells.items i p.0 d p.1.0 e in
          (ap (λ (x : Cell). x.table) (sym same) ∙ like.table_is ∙ et, ap (λ (x : Cell). x.across) (sym same) ∙ like.across_is ∙ ea, ap (λ (x : Cell). x.down) (sym same) ∙ like.down_is ∙ ed, ap (λ (x : Cell). x.holds) (sym same) ∙ like.holds_is ∙ eh);
    }

shaped_later : (s m : State) (i n q : ℕ) (b : Table) → slice_get s.tables.items i ≡ Some b → b.count ≡ n → b.spacing ≡ q → Grows s m → Shaped m i n q
shaped_later s m i n q b there en eq g =
    let p = g.tables i b there in
    record {
      some = ∣ (p.0, p.1.0) ∣₁;
      is = λ d e.
          let same : p.0 ≡ d = nth_same m.tables.items i p.0 d p.1.0 e in
          (ap (λ (x : Table). x.count) (sym same) ∙ p.1.1.count_is ∙ en, ap (λ (x : Table). x.spacing) (sym same) ∙ p.1.1.spacing_is ∙ eq);
    }

-- the new cell
new_there : (cs : Stock Cell) (x : Stock Cell) (c : Cell) → x ≡ with_new cs c → slice_get x.items (length cs.items) ≡ Some c
new_there cs x c e = ap (λ (y : Stock Cell). slice_get y.items (length cs.items)) e ∙ nth_last cs.items c

-- the new table
new_table : (ts x : Stock Table) (t : ℕ) (b d : Table) (n q : ℕ) → slice_get ts.items t ≡ Some b → x ≡ with_new (with_item ts t d) (blank_table n q) → slice_get x.items (length ts.items) ≡ Some (blank_table n q)
new_table ts x t b d n q there e =
    ap (λ (y : Stock Table). slice_get y.items (length ts.items)) e ∙
    ap (slice_get (set ts.items t d ++ blank_table n q ∷ [])) (sym (length-set ts.items t d)) ∙
    nth_last (set ts.items t d) (blank_table n q)

-- ---- place and nest

module _ (s : State) (before after : List Call) where
  abbrev then : State
  then = run s before

  -- after the call c that was accepted, everything grows
  grown_from : (c : Call) (o : Outcome) → wanted then c ≡ Ok o → Grows o.after (run s (before ++ c ∷ after))
  grown_from c o e =
      let there : next then c ≡ o.after = ap (after_of then) e in
      subst (Grows o.after) (sym (run_append s before after c ∙ ap (λ z. run z after) there)) (grows_run o.after after)

  pub placed_told : (t content across down i : ℕ) (m : State) → wanted then (Place t content across down) ≡ Ok (record { answer = Number i; after = m }) → Stands (run s (before ++ Place t content across down ∷ after)) i t across down (Content content)
  placed_told t content across down i m e =
      let free = by_cells then.cells.items in
      let a = added_told (place_lists free then.tables then.cells t across down content) i m e in
      let p = place_told free then.tables then.cells t across down a.0 content a.1.0 in
      let c : Cell = new_cell t p.adds.table p.adds.column across down (Content content) in
      let there = new_there then.cells m.cells c (sym a.1.2 ∙ p.adds.cells_are) in
      let same : length then.cells.items ≡ i = sym p.answer_is ∙ a.1.1 in
      stands_later m (run s (before ++ Place t content across down ∷ after)) i t across down (Content content) c (ap (slice_get m.cells.items) (sym same) ∙ there) refl refl refl refl (grown_from (Place t content across down) (record { answer = Number i; after = m }) e)

  pub nested_told : (t across down n q i : ℕ) (m : State) → wanted then (Nest t across down n q) ≡ Ok (record { answer = Number i; after = m }) → Sound s → Shaped (run s (before ++ Nest t across down n q ∷ after)) i n q × Hangs (run s (before ++ Nest t across down n q ∷ after)) i t across down
  nested_told t across down n q i m e g =
      let free = by_cells then.cells.items in
      let last : State = run s (before ++ Nest t across down n q ∷ after) in
      let a = added_told (nest_lists free then.tables then.cells t across down n q) i m e in
      let p = nest_told free then.tables then.cells t across down a.0 n q a.1.0 in
      let c : Cell = new_cell t p.adds.table p.adds.column across down (Inner (length then.tables.items)) in
      let there = new_there then.cells m.cells c (sym a.1.2 ∙ p.adds.cells_are) in
      let same : length then.tables.items ≡ i = sym p.answer_is ∙ a.1.1 in
      let grows = grown_from (Nest t across down n q) (record { answer = Number i; after = m }) e in
      let stands = stands_later m last (length then.cells.items) t across down (Inner i) c there refl refl refl (ap Inner same) grows in
      let sound = sound_run s (before ++ Nest t across down n q ∷ after) g in
      let like = grows.cells (length then.cells.items) c there in
      let table = new_table then.tables m.tables t p.adds.table _ n q p.adds.there (sym a.1.3 ∙ p.tables_are) in (
        shaped_later m last i n q (blank_table n q) (ap (slice_get m.tables.items) (sym same) ∙ table) refl refl grows,
        λ k d f h.
            let at : length then.cells.items ≡ k = sound.nested.once (length then.cells.items) k i like.0 d like.1.0 f (like.1.1.holds_is ∙ ap Inner same) h in
            let is = stands.is d (ap (slice_get last.cells.items) at ∙ f) in
            (is.0, is.1, is.2),
      )

-- all of it, from any sound state
pub told : (s : State) (calls : List Call) → Sound s → Told s calls
told s calls g = record {
  planned = planned (run s calls) (sound_run s calls g);
  placed = λ before after t content across down i m is e. subst (λ cs. Stands (run s cs) i t across down (Content content)) (sym is) (placed_told s before after t content across down i m e);
  nested = λ before after t across down n q i m is e. subst (λ cs. Shaped (run s cs) i n q × Hangs (run s cs) i t across down) (sym is) (nested_told s before after t across down n q i m e g);
  sized = λ t j. sized_run s calls t j g;
}

-- The laws of a plan, of every state that a run reached.
use Rattle.std.proofs.Common.{◌≡◌, List, [], ◌∷◌, ◌++◌, Ok, refl, ap, ◌∙◌, subst, arith}
use mathlib.Core.HLevel.{⊥_prop}
use mathlib.Core.Logic.{∥∥₁_elim, ∥∥₁_map, ∥∥₁_prop}
use denote.Struct.Props.{props}
use Rattle.plan.specs.declared.record.Cell.{Cell}
use Rattle.plan.specs.declared.record.Table.{Table}
use Rattle.runs.specs.State.{State, empty}
use Rattle.runs.specs.Calls.{Call, Outcome, wanted, after_of, next, run, Reached}
use Rattle.runs.specs.Laws.{Planned}
use Rattle.runs.proofs.Standing.{standing_apart}
use Rattle.runs.proofs.Good.{Sound, sound_reached}

pub planned : (s : State) → Sound s → Planned s
planned s g = record {
  few_tables = g.few_tables;
  few_cells = g.few_cells;
  able = g.standing.able;
  known = g.standing.known;
  within = g.standing.within;
  apart = standing_apart s.tables.items s.cells.items g.standing;
  lowest = g.standing.lowest;
  held = λ n p q.
      let h = g.nested.held n p q in
      record {
        some = ∣ (h.number, (h.cell, (h.there, h.holds))) ∣₁;
        once = λ i k a b e f u v. g.nested.once i k n a b e f u v;
        below = λ k c e f. (g.nested.holds k n c e f).0;
      };
  holds = λ k n c e f. let h = g.nested.holds k n c e f in (omega (arith, h.0), h.1);
  later = g.nested.later;
}

-- of every state that some run reached
pub planned_reached : (s : State) → ∥ Reached s ∥₁ → Planned s
planned_reached s t =
    let of : Reached s → Planned s = λ r. planned s (sound_reached s r) in
    record {
      few_tables = ∥∥₁_elim t (hlevel props) (λ r. (of r).few_tables);
      few_cells = ∥∥₁_elim t (hlevel props) (λ r. (of r).few_cells);
      able = λ k b e. record {
        some = ∥∥₁_elim t (hlevel props) (λ r. ((of r).able k b e).some);
        few = ∥∥₁_elim t (hlevel props) (λ r. ((of r).able k b e).few);
        narrow = ∥∥₁_elim t (hlevel props) (λ r. ((of r).able k b e).narrow);
        in_rows = ∥∥₁_elim t (hlevel props) (λ r. ((of r).able k b e).in_rows);
        rows = ∥∥₁_elim t (hlevel props) (λ r. ((of r).able k b e).rows);
        columns_there = ∥∥₁_elim t (hlevel props) (λ r. ((of r).able k b e).columns_there);
        rows_there = ∥∥₁_elim t (hlevel props) (λ r. ((of r).able k b e).rows_there);
      };
      known = λ k c e. ∥∥₁_elim t (hlevel props) (λ r. (of r).known k c e);
      within = λ k c b e f. record {
        wide = ∥∥₁_elim t (hlevel props) (λ r. ((of r).within k c b e f).wide);
        tall = ∥∥₁_elim t (hlevel props) (λ r. ((of r).within k c b e f).tall);
        columns = ∥∥₁_elim t (hlevel props) (λ r. ((of r).within k c b e f).columns);
        rows = ∥∥₁_elim t (hlevel props) (λ r. ((of r).within k c b e f).rows);
      };
      apart = λ i k a b n e f u r j x y. ∥∥₁_elim t ⊥_prop (λ z. (of z).apart i k a b n e f u r j x y);
      lowest = λ k c e. record {
        free = λ j p q. ∥∥₁_elim t (hlevel props) (λ r. ((of r).lowest k c e).free j p q);
        lowest = λ j p. ∥∥₁_elim t (hlevel props) (λ r. ((of r).lowest k c e).lowest j p);
      };
      held = λ n p q. record {
        some = ∥∥₁_elim t ∥∥₁_prop (λ r. ((of r).held n p q).some);
        once = λ i k a b e f u v. ∥∥₁_elim t (hlevel props) (λ r. ((of r).held n p q).once i k a b e f u v);
        below = λ k c e f. ∥∥₁_elim t (hlevel props) (λ r. ((of r).held n p q).below k c e f);
      };
      holds = λ k n c e f. (∥∥₁_elim t (hlevel props) (λ r. ((of r).holds k n c e f).0), ∥∥₁_elim t (hlevel props) (λ r. ((of r).holds k n c e f).1));
      later = λ i k n a b e f u v. ∥∥₁_elim t (hlevel props) (λ r. (of r).later i k n a b e f u v);
    }

-- ---- one call more

pub run_push : (s : State) (cs : List Call) (c : Call) → run s (cs ++ c ∷ []) ≡ next (run s cs) c
run_push s [] c = refl
run_push s (d ∷ cs) c = run_push (next s d) cs c

pub reached_next : (s : State) (c : Call) → ∥ Reached s ∥₁ → ∥ Reached (next s c) ∥₁
reached_next s c t = ∥∥₁_map t (λ r. record {
  table_places = r.table_places;
  cell_places = r.cell_places;
  calls = r.calls ++ c ∷ [];
  is = run_push (empty r.table_places r.cell_places) r.calls c ∙ ap (λ z. next z c) r.is;
})

-- an accepted call reaches what it leaves
pub reached_by : (s m : State) (c : Call) (o : Outcome) → wanted s c ≡ Ok o → o.after ≡ m → ∥ Reached s ∥₁ → ∥ Reached m ∥₁
reached_by s m c o e is t = subst (λ z. ∥ Reached z ∥₁) (ap (after_of s) e ∙ is) (reached_next s c t)

pub reached_empty : (ts : List Table) (cs : List Cell) → ∥ Reached (empty ts cs) ∥₁
reached_empty ts cs = ∣ record { table_places = ts; cell_places = cs; calls = []; is = refl } ∣₁

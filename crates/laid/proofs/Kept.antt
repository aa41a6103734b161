-- A plan stays a plan whatever is measured.
use Rattle.std.proofs.Common.{◌≡◌, ℕ, ◌<◌, not, ◌&&◌, eqb, List, [], ◌∷◌, map, length, take, Some, sym, refl, ap, ◌∙◌, arith}
use mathlib.Core.Logic.{∥∥₁_map}
use Rattle.std.specs.List.{slice_get}
use Rattle.std.proofs.lemmas.List.{take-map}
use Rattle.plan.specs.declared.record.Cell.{Cell}
use Rattle.plan.specs.declared.record.Holds.TheVariants.{Inner}
use Rattle.plan.specs.declared.record.Table.{Table}
use Rattle.plan.specs.Cells.{takes, free_in}
use Rattle.plan.specs.Planned.{Apart, CameLowest, Within, Able, Held, Planned}
use Rattle.laid.specs.Layout.{clear_column, clear_table, clear_cell}
use Rattle.laid.specs.Laws.{SameTables, SameCells}
use Rattle.laid.proofs.Twins.{as_many, twin}

pub able_kept : (b d : Table) → clear_table b ≡ clear_table d → Able d → Able b
able_kept b d s a =
    let c = ap (λ (z : Table). z.count) s in
    let q = ap (λ (z : Table). z.spacing) s in
    let n = ap (λ (z : Table). z.begun) s in
    let r = ap (λ (z : Table). z.reached) s in
    record {
      some = omega (arith, a.some);
      few = omega (arith, a.few);
      narrow = omega (arith, a.narrow);
      in_rows = omega (arith, a.in_rows);
      rows = omega (arith, a.rows);
      columns_there = as_many clear_column b.columns d.columns (ap (λ (z : Table). z.columns) s) ∙ a.columns_there;
      rows_there = as_many (λ _. 0) b.heights d.heights (ap (λ (z : Table). z.heights) s) ∙ a.rows_there;
    }

free_clear : (cs : List Cell) (t r j : ℕ) → free_in (map clear_cell cs) t r j ≡ free_in cs t r j
free_clear [] t r j = refl
free_clear (c ∷ cs) t r j = ap (λ b. not (eqb c.table t && takes c r j) && b) (free_clear cs t r j)

free_kept : (cs ds : List Cell) → SameCells ds cs → (k t r j : ℕ) → free_in (take k ds) t r j ≡ free_in (take k cs) t r j
free_kept cs ds p k t r j =
    sym (free_clear (take k ds) t r j)
    ∙ (ap (λ xs. free_in xs t r j) (sym (take-map clear_cell k ds) ∙ (ap (take k) p ∙ take-map clear_cell k cs)) ∙ free_clear (take k cs) t r j)

pub free_kept_all : (cs ds : List Cell) → SameCells ds cs → (t r j : ℕ) → free_in ds t r j ≡ free_in cs t r j
free_kept_all cs ds p t r j = sym (free_clear ds t r j) ∙ (ap (λ xs. free_in xs t r j) p ∙ free_clear cs t r j)

module _ (ts us : List Table) (cs ds : List Cell) (st : SameTables us ts) (sc : SameCells ds cs) (p : Planned ts cs) where
  old : (i : ℕ) (d : Cell) → slice_get ds i ≡ Some d → (c : Cell) × (slice_get cs i ≡ Some c) × (clear_cell d ≡ clear_cell c)
  old = twin clear_cell ds cs sc

  tables_many : length us ≡ length ts
  tables_many = as_many clear_table us ts st

  within_kept : (k : ℕ) (d : Cell) (e : Table) → slice_get ds k ≡ Some d → slice_get us d.table ≡ Some e → Within d e
  within_kept k d e h q =
      let w = old k d h in
      let b = twin clear_table us ts st d.table e q in
      let x = p.within k w.0 b.0 w.1 (ap (slice_get ts) (sym (ap (λ (z : Cell). z.table) w.2)) ∙ b.1) in
      let r = ap (λ (z : Cell). z.row) w.2 in
      let c = ap (λ (z : Cell). z.column) w.2 in
      let a = ap (λ (z : Cell). z.across) w.2 in
      let o = ap (λ (z : Cell). z.down) w.2 in
      let n = ap (λ (z : Table). z.count) b.2 in
      let m = ap (λ (z : Table). z.reached) b.2 in
      record { wide = omega (arith, x.wide); tall = omega (arith, x.tall); columns = omega (arith, x.columns); rows = omega (arith, x.rows) }

  apart_kept : Apart ds
  apart_kept i k a b n e h q r j x y =
      let v = old i a e in
      let w = old k b h in
      p.apart i k v.0 w.0 n v.1 w.1 (sym (ap (λ (z : Cell). z.table) v.2) ∙ (q ∙ ap (λ (z : Cell). z.table) w.2)) r j
      (sym (ap (λ z. takes z r j) v.2) ∙ x) (sym (ap (λ z. takes z r j) w.2) ∙ y)

  -- what was free in the row of a cell when it came
  free_old : (k : ℕ) (d c : Cell) → clear_cell d ≡ clear_cell c → (j : ℕ) → free_in (take k ds) d.table d.row j ≡ free_in (take k cs) c.table c.row j
  free_old k d c s j = free_kept cs ds sc k d.table d.row j ∙ ap (λ (z : Cell). free_in (take k cs) z.table z.row j) s

  lowest_kept : (k : ℕ) (d : Cell) → slice_get ds k ≡ Some d → CameLowest ds k d
  lowest_kept k d e =
      let w = old k d e in
      let x = p.lowest k w.0 w.1 in
      let c = ap (λ (z : Cell). z.column) w.2 in
      let a = ap (λ (z : Cell). z.across) w.2 in
      record {
        free = λ j lo hi. free_old k d w.0 w.2 j ∙ x.free j (omega arith) (omega arith);
        lowest = λ j l. free_old k d w.0 w.2 j ∙ x.lowest j (omega arith);
      }

  holds_old : (d c : Cell) (n : ℕ) → clear_cell d ≡ clear_cell c → d.holds ≡ Inner n → c.holds ≡ Inner n
  holds_old d c n s h = sym (ap (λ (z : Cell). z.holds) s) ∙ h

  held_kept : (n : ℕ) → 0 < n → n < length us → Held ds n
  held_kept n l h =
      let x = p.held n l (omega (arith, tables_many)) in
      record {
        some = ∥∥₁_map x.some (λ k.
            let w = twin clear_cell cs ds (sym sc) k.0 k.1.0 k.1.1.0 in
            (k.0, (w.0, (w.1, sym (ap (λ (z : Cell). z.holds) w.2) ∙ k.1.1.1))));
        once = λ i k a b e f u v.
            let y = old i a e in
            let w = old k b f in
            x.once i k y.0 w.0 y.1 w.1 (holds_old a y.0 n y.2 u) (holds_old b w.0 n w.2 v);
        below = λ k d e u.
            let w = old k d e in
            omega (arith, ap (λ (z : Cell). z.table) w.2, x.below k w.0 w.1 (holds_old d w.0 n w.2 u));
      }

  planned : Planned us ds
  planned = record {
    few_tables = omega (arith, tables_many, p.few_tables);
    few_cells = omega (arith, as_many clear_cell ds cs sc, p.few_cells);
    able = λ t e h. let b = twin clear_table us ts st t e h in able_kept e b.0 b.2 (p.able t b.0 b.1);
    known = λ k d e. let w = old k d e in omega (arith, tables_many, ap (λ (z : Cell). z.table) w.2, p.known k w.0 w.1);
    within = within_kept;
    apart = apart_kept;
    lowest = lowest_kept;
    held = held_kept;
    holds = λ k n d e u.
        let w = old k d e in
        let x = p.holds k n w.0 w.1 (holds_old d w.0 n w.2 u) in
        (x.0, omega (arith, tables_many, x.1));
    later = λ i k n a b e f u v.
        let y = old i a e in
        let w = old k b f in
        p.later i k n y.0 w.0 y.1 w.1 (holds_old a y.0 n y.2 u) (sym (ap (λ (z : Cell). z.table) w.2) ∙ v);
  }

pub planned_kept : (ts us : List Table) (cs ds : List Cell) → SameTables us ts → SameCells ds cs → Planned ts cs → Planned us ds
planned_kept = planned

-- The cells of a table, and the cell that holds one.
use Rattle.std.proofs.Common.{◌≡◌, ℕ, zero, suc, ◌+◌, ◌<◌, ◌≤◌, true, eqb, List, [], ◌∷◌, Some, None, sym, refl, ap, ◌∙◌, subst, inl, inr, arith}
use Rattle.std.specs.List.{slice_get, AllByRecursion}
use Rattle.std.proofs.lemmas.Bool.{cond-true, cond-false, cases_Bool, eqb-true, eq-eqb, ne_eqb, false≢true}
use Rattle.std.proofs.lemmas.Bool.Decides.{nat_tests}
use Rattle.plan.specs.declared.record.Axis.{Axis}
use Rattle.plan.specs.declared.record.Axis.TheVariants.{Columns, Rows}
use Rattle.plan.specs.declared.record.Cell.{Cell}
use Rattle.plan.specs.declared.record.Holds.{Holds}
use Rattle.plan.specs.declared.record.Holds.TheVariants.{Content, Inner}
use Rattle.plan.specs.declared.record.Table.{Table}
use Rattle.plan.specs.Planned.{Able, Within}
use Rattle.columns.specs.Tables.{track_count, first_of, span_of, widest_span, lies_in}
use Rattle.laid.specs.Views.{seen, cells_of, holds_table, holder, holder_from, cell_at}
use Rattle.laid.specs.Layout.{corner}
use Rattle.laid.proofs.Listing.{all_nth, all_kept, kept_all}

-- ---- the cells of a table

-- what the test of a table's cells tells
pub record Lies (x : Axis) (t n : ℕ) (c : Cell) : Type 0 where
  pub table_is : c.table ≡ t
  pub some : 1 ≤ span_of x c
  pub few : span_of x c ≤ widest_span x
  pub ends : first_of x c + span_of x c ≤ n

lies : (x : Axis) (t n : ℕ) (c : Cell) → lies_in x t n c ≡ true → Lies x t n c
lies Columns t n c e = record { table_is = grind (arith, nat_tests); some = grind (arith, nat_tests); few = grind (arith, nat_tests); ends = grind (arith, nat_tests) }
lies Rows t n c e = record { table_is = grind (arith, nat_tests); some = grind (arith, nat_tests); few = grind (arith, nat_tests); ends = grind (arith, nat_tests) }

-- a cell of the plan passes it
passes : (x : Axis) (t : ℕ) (b : Table) (c : Cell) → Able b → Within c b → c.table ≡ t → lies_in x t (track_count x b) c ≡ true
passes Columns t b c a w e = grind (arith, nat_tests)
passes Rows t b c a w e = grind (arith, nat_tests)

module _ (P : Cell → Type 0) (x : Axis) (t : ℕ) (b : Table) (cs : List Cell) where
  pub all_cells : ((i : ℕ) (c : Cell) → slice_get cs i ≡ Some c → Lies x t (track_count x b) c → P c) → AllByRecursion P (cells_of x t b cs)
  all_cells h = all_kept _ P cs (λ i c e l. h i c e (lies x t (track_count x b) c l))

  pub cell_in : AllByRecursion P (cells_of x t b cs) → Able b → (i : ℕ) (c : Cell) → slice_get cs i ≡ Some c → Within c b → c.table ≡ t → P c
  cell_in a able i c e w q = all_nth _ cs (kept_all _ P cs a) i c e (passes x t b c able w q)

-- ---- the cell that holds a table

-- cell k, counted from i on, holds table t
pub record Found (t i : ℕ) (cs : List Cell) (k : ℕ) : Type 0 where
  pub at : ℕ
  pub cell : Cell
  pub number : k ≡ i + at
  pub there : slice_get cs at ≡ Some cell
  pub holds_it : cell.holds ≡ Inner t

holds_true : (t : ℕ) (h : Holds) → holds_table t h ≡ true → h ≡ Inner t
holds_true t (Content k) e = absurd (false≢true e)
holds_true t (Inner u) e = ap Inner (eqb-true u t e)

true_holds : (t : ℕ) (h : Holds) → h ≡ Inner t → holds_table t h ≡ true
true_holds t h e = subst (λ z. holds_table t z ≡ true) (sym e) (eq-eqb t t refl)

pub found : (t i : ℕ) (cs : List Cell) (k : ℕ) → holder_from t i cs ≡ Some k → Found t i cs k
unfolding holder_from
found t i [] k e = let z : ◌≡◌ {A = ℕ} 0 1 = cc in absurd (omega arith)
found t i (c ∷ cs) k e =
    elim (cases_Bool (holds_table t c.holds)) [
      | inl y ↦
          let q = cond-true (holds_table t c.holds) (Some i) (holder_from t (suc i) cs) y in
          let s : i ≡ k = cc in
          record { at = 0; cell = c; number = omega arith; there = refl; holds_it = holds_true t c.holds y }
      | inr y ↦
          let q = cond-false (holds_table t c.holds) (Some i) (holder_from t (suc i) cs) y in
          let f = found t (suc i) cs k (sym q ∙ e) in
          record { at = suc f.at; cell = f.cell; number = omega (arith, f.number); there = f.there; holds_it = f.holds_it }
    ]

pub finds : (t i : ℕ) (cs : List Cell) (k : ℕ) (c : Cell) → slice_get cs k ≡ Some c → c.holds ≡ Inner t → (j : ℕ) × (holder_from t i cs ≡ Some j)
unfolding holder_from
finds t i [] k c e b = let z : ◌≡◌ {A = ℕ} 0 1 = cc in absurd (omega arith)
finds t i (d ∷ cs) zero c e b =
    let s : d ≡ c = cc in
    let y : holds_table t d.holds ≡ true = true_holds t d.holds (ap (λ (z : Cell). z.holds) s ∙ b) in
    (i, cond-true (holds_table t d.holds) (Some i) (holder_from t (suc i) cs) y)
finds t i (d ∷ cs) (suc k) c e b =
    elim (cases_Bool (holds_table t d.holds)) [
      | inl y ↦ (i, cond-true (holds_table t d.holds) (Some i) (holder_from t (suc i) cs) y)
      | inr y ↦
          let r = finds t (suc i) cs k c e b in
          (r.0, cond-false (holds_table t d.holds) (Some i) (holder_from t (suc i) cs) y ∙ r.1)
    ]

-- no table is held by two cells
abbrev pub Once : List Cell → Type 0
Once cs = (i k : ℕ) (a b : Cell) (t : ℕ) → slice_get cs i ≡ Some a → slice_get cs k ≡ Some b → a.holds ≡ Inner t → b.holds ≡ Inner t → i ≡ k

-- the cell that holds table t is the one that is found
pub holder_is : (cs : List Cell) → Once cs → (k : ℕ) (c : Cell) (t : ℕ) → 0 < t → slice_get cs k ≡ Some c → c.holds ≡ Inner t → holder t cs ≡ Some k
holder_is cs once k c t l e b =
    let r = finds t 0 cs k c e b in
    let f = found t 0 cs r.0 r.1 in
    let s : r.0 ≡ k = omega (arith, f.number, once f.at k f.cell c t f.there e f.holds_it b) in
    cond-false (eqb t 0) None (holder_from t 0 cs) (ne_eqb t 0 (λ z. omega arith)) ∙ (r.1 ∙ ap Some s)

-- an inner table stands at the left top corner of its cell
pub corner_is : (cs : List Cell) → Once cs → (k : ℕ) (c : Cell) (t : ℕ) → 0 < t → slice_get cs k ≡ Some c → c.holds ≡ Inner t → corner cs (holder t cs) ≡ (c.rect.left, c.rect.top)
unfolding corner
corner_is cs once k c t l e b =
    ap (λ o. seen (λ (d : Cell). (d.rect.left, d.rect.top)) (0, 0) (cell_at cs o)) (holder_is cs once k c t l e b)
    ∙ ap (seen (λ (d : Cell). (d.rect.left, d.rect.top)) (0, 0)) e

-- What was made keeps its number: calls only add cells and tables, and change neither where a cell stands nor a table's shape.
use Rattle.std.proofs.Common.{◌≡◌, ℕ, Bool, false, List, [], ◌∷◌, ◌++◌, set, Some, Ok, Err, Result, sym, refl, ap, ◌∙◌, subst, inl, inr}
use Rattle.std.specs.List.{slice_get}
use Rattle.std.proofs.lemmas.Bool.{cases_eq}
use Rattle.fault.specs.declared.Fault.{Fault}
use Rattle.plan.specs.declared.record.Cell.{Cell}
use Rattle.plan.specs.declared.record.Table.{Table}
use Rattle.plan.specs.Blank.{blank_table}
use Rattle.plan.specs.Stock.{Stock}
use Rattle.plan.specs.Steps.{Added, start_tables, row_tables, width_tables, place_lists, nest_lists, with_row, with_sizing, with_cell}
use Rattle.plan.specs.Cells.{by_cells}
use Rattle.runs.specs.State.{State}
use Rattle.runs.specs.Calls.{Call, Start, Row, Place, Nest, Width, changed, added, after_of, next, run}
use Rattle.runs.proofs.Lists.{nth_same, nth_old, nth_set_same, nth_set_other}
use Rattle.runs.proofs.Accepted.{start_told, row_told, width_told, place_told, nest_told}

-- the cell stands in the same place, and holds the same
pub record Alike (c d : Cell) : Type 0 where
  pub table_is : d.table ≡ c.table
  pub row_is : d.row ≡ c.row
  pub column_is : d.column ≡ c.column
  pub across_is : d.across ≡ c.across
  pub down_is : d.down ≡ c.down
  pub holds_is : d.holds ≡ c.holds

pub alike_same : (c : Cell) → Alike c c
alike_same c = record { table_is = refl; row_is = refl; column_is = refl; across_is = refl; down_is = refl; holds_is = refl }

alike_then : (a b c : Cell) → Alike a b → Alike b c → Alike a c
alike_then a b c p q = record {
  table_is = q.table_is ∙ p.table_is;
  row_is = q.row_is ∙ p.row_is;
  column_is = q.column_is ∙ p.column_is;
  across_is = q.across_is ∙ p.across_is;
  down_is = q.down_is ∙ p.down_is;
  holds_is = q.holds_is ∙ p.holds_is;
}

-- the table has the same shape
pub record Shape (b d : Table) : Type 0 where
  pub count_is : d.count ≡ b.count
  pub spacing_is : d.spacing ≡ b.spacing

shape_same : (b : Table) → Shape b b
shape_same b = record { count_is = refl; spacing_is = refl }

shape_then : (a b c : Table) → Shape a b → Shape b c → Shape a c
shape_then a b c p q = record { count_is = q.count_is ∙ p.count_is; spacing_is = q.spacing_is ∙ p.spacing_is }

-- item i of xs has its like in ys
abbrev pub Like : {A : Type 0} → (A → A → Type 0) → List A → List A → Type 0
Like {A} R xs ys = (i : ℕ) (x : A) → slice_get xs i ≡ Some x → (y : A) × ((slice_get ys i ≡ Some y) × R x y)

module _ {A : Type 0} (R : A → A → Type 0) where
  like_same : ((x : A) → R x x) → (xs : List A) → Like R xs xs
  like_same same xs i x e = (x, (e, same x))

  like_then : ((x y z : A) → R x y → R y z → R x z) → (xs ys zs : List A) → Like R xs ys → Like R ys zs → Like R xs zs
  like_then trans xs ys zs f g i x e =
      let p = f i x e in
      let q = g i p.0 p.1.0 in
      (q.0, (q.1.0, trans x p.0 q.0 p.1.1 q.1.1))

  like_push : ((x : A) → R x x) → (xs : List A) (a : A) → Like R xs (xs ++ a ∷ [])
  like_push same xs a i x e = (x, (nth_old xs a i x e, same x))

  like_set : ((x : A) → R x x) → (xs : List A) (t : ℕ) (b d : A) → slice_get xs t ≡ Some b → R b d → Like R xs (set xs t d)
  like_set same xs t b d there r i x e =
      elim (cases_eq i t) [
        | inl q ↦
            let is : b ≡ x = nth_same xs t b x there (ap (slice_get xs) (sym q) ∙ e) in
            (d, (ap (slice_get (set xs t d)) q ∙ nth_set_same xs t d b there, subst (λ y. R y d) is r))
        | inr q ↦ (x, (nth_set_other xs t d i q ∙ e, same x))
      ]

pub record Grows (s m : State) : Type 0 where
  pub cells : Like Alike s.cells.items m.cells.items
  pub tables : Like Shape s.tables.items m.tables.items

pub grows_same : (s : State) → Grows s s
grows_same s = record { cells = like_same Alike alike_same s.cells.items; tables = like_same Shape shape_same s.tables.items }

pub grows_then : (s m n : State) → Grows s m → Grows m n → Grows s n
grows_then s m n p q = record {
  cells = like_then Alike alike_then s.cells.items m.cells.items n.cells.items p.cells q.cells;
  tables = like_then Shape shape_then s.tables.items m.tables.items n.tables.items p.tables q.tables;
}

-- the tables alone change
module _ (s : State) (laid : Bool) where
  grows_tables : ((ts : Stock Table) → Like Shape s.tables.items ts.items → Grows s (record { tables = ts; cells = s.cells; laid = laid }))
  grows_tables ts h = record { cells = like_same Alike alike_same s.cells.items; tables = h }

  grows_start : (n q : ℕ) (r : Result (Stock Table) Fault) → start_tables s.tables n q ≡ r → Grows s (after_of s (changed s laid r))
  grows_start n q (Err f) e = grows_same s
  grows_start n q (Ok ts) e =
      grows_tables ts (subst (λ (x : Stock Table). Like Shape s.tables.items x.items) (sym (start_told s.tables ts n q e)) (like_push Shape shape_same s.tables.items (blank_table n q)))

  grows_row : (t : ℕ) (r : Result (Stock Table) Fault) → row_tables s.tables t ≡ r → Grows s (after_of s (changed s laid r))
  grows_row t (Err f) e = grows_same s
  grows_row t (Ok ts) e =
      let p = row_told s.tables ts t e in
      grows_tables ts (subst (λ (x : Stock Table). Like Shape s.tables.items x.items) (sym p.1.is) (like_set Shape shape_same s.tables.items t p.0 (with_row p.0) p.1.there (record { count_is = refl; spacing_is = refl })))

  grows_width : (t j f : ℕ) (r : Result (Stock Table) Fault) → width_tables s.tables t j f ≡ r → Grows s (after_of s (changed s laid r))
  grows_width t j f (Err g) e = grows_same s
  grows_width t j f (Ok ts) e =
      let p = width_told s.tables ts t j f e in
      grows_tables ts (subst (λ (x : Stock Table). Like Shape s.tables.items x.items) (sym p.1.1.is) (like_set Shape shape_same s.tables.items t p.0 (with_sizing p.0 j f) p.1.1.there (record { count_is = refl; spacing_is = refl })))

-- a cell is added
module _ (s : State) (t across down : ℕ) where
  abbrev free : ℕ → Table → ℕ → Bool
  free = by_cells s.cells.items

  cell_like : (b : Table) (j : ℕ) → slice_get s.tables.items t ≡ Some b → Like Shape s.tables.items (set s.tables.items t (with_cell b j across down))
  cell_like b j e = like_set Shape shape_same s.tables.items t b (with_cell b j across down) e (record { count_is = refl; spacing_is = refl })

  grows_place : (content : ℕ) (r : Result Added Fault) → place_lists free s.tables s.cells t across down content ≡ r → Grows s (after_of s (added r))
  grows_place content (Err f) e = grows_same s
  grows_place content (Ok a) e =
      let p = place_told free s.tables s.cells t across down a content e in
      record {
        cells = subst (λ (x : Stock Cell). Like Alike s.cells.items x.items) (sym p.adds.cells_are) (like_push Alike alike_same s.cells.items _);
        tables = subst (λ (x : Stock Table). Like Shape s.tables.items x.items) (sym p.tables_are) (cell_like p.adds.table p.adds.column p.adds.there);
      }

  grows_nest : (n q : ℕ) (r : Result Added Fault) → nest_lists free s.tables s.cells t across down n q ≡ r → Grows s (after_of s (added r))
  grows_nest n q (Err f) e = grows_same s
  grows_nest n q (Ok a) e =
      let p = nest_told free s.tables s.cells t across down a n q e in
      let d = with_cell p.adds.table p.adds.column across down in
      record {
        cells = subst (λ (x : Stock Cell). Like Alike s.cells.items x.items) (sym p.adds.cells_are) (like_push Alike alike_same s.cells.items _);
        tables = subst (λ (x : Stock Table). Like Shape s.tables.items x.items) (sym p.tables_are) (like_then Shape shape_then s.tables.items (set s.tables.items t d) (set s.tables.items t d ++ blank_table n q ∷ []) (cell_like p.adds.table p.adds.column p.adds.there) (like_push Shape shape_same (set s.tables.items t d) (blank_table n q)));
      }

pub grows_next : (s : State) (c : Call) → Grows s (next s c)
grows_next s (Start n q) = grows_start s s.laid n q (start_tables s.tables n q) refl
grows_next s (Row t) = grows_row s false t (row_tables s.tables t) refl
grows_next s (Place t content across down) = grows_place s t across down content (place_lists (by_cells s.cells.items) s.tables s.cells t across down content) refl
grows_next s (Nest t across down n q) = grows_nest s t across down n q (nest_lists (by_cells s.cells.items) s.tables s.cells t across down n q) refl
grows_next s (Width t j f) = grows_width s false t j f (width_tables s.tables t j f) refl

pub grows_run : (s : State) (cs : List Call) → Grows s (run s cs)
grows_run s [] = grows_same s
grows_run s (c ∷ cs) = grows_then s (next s c) (run (next s c) cs) (grows_next s c) (grows_run (next s c) cs)

-- Columns are as last set.
use Rattle.std.proofs.Common.{◌≡◌, ℕ, zero, suc, ◌<◌, Bool, false, cond, ◌&&◌, eqb, List, [], ◌∷◌, ◌++◌, length, get_or, set, replicate, is_ok, Some, Ok, Err, Result, sym, refl, ap, ◌∙◌, inl, inr, arith, get_or-set_other, get_or-set_same}
use Rattle.std.specs.List.{slice_get}
use Rattle.std.proofs.lemmas.Bool.{cases_eq, eq-eqb, ne_eqb}
use Rattle.fault.specs.declared.Fault.{Fault}
use Rattle.plan.specs.declared.record.Column.{Column}
use Rattle.plan.specs.declared.record.Table.{Table}
use Rattle.plan.specs.Blank.{blank_column, blank_table}
use Rattle.plan.specs.Stock.{Stock, with_new, with_item}
use Rattle.plan.specs.Steps.{Added, start_tables, row_tables, width_tables, place_lists, nest_lists, sizing_of, sized, with_row, with_sizing, with_cell}
use Rattle.plan.specs.Cells.{by_cells}
use Rattle.runs.specs.State.{State}
use Rattle.runs.specs.Calls.{Call, Start, Row, Place, Nest, Width, changed, added, after_of, next, run}
use Rattle.runs.specs.History.{sizing_in, sizing_at, set_by, last_set}
use Rattle.runs.proofs.Lists.{nth_set_same, nth_set_other}
use Rattle.runs.proofs.Accepted.{start_told, row_told, width_told, place_told, nest_told}
use Rattle.runs.proofs.Good.{Sound, sound_next}

all_same : {A : Type 0} (n : ℕ) (x : A) (j : ℕ) → get_or (replicate n x) j x ≡ x
all_same zero x j = refl
all_same (suc n) x zero = refl
all_same (suc n) x (suc j) = all_same n x j

-- a new table has free columns
sizing_push : (xs : List Table) (n q t j : ℕ) → sizing_in (slice_get (xs ++ blank_table n q ∷ []) t) j ≡ sizing_in (slice_get xs t) j
sizing_push [] n q zero j = ap (λ (c : Column). c.sizing) (all_same 32 blank_column j)
sizing_push [] n q (suc t) j = refl
sizing_push (x ∷ xs) n q zero j = refl
sizing_push (x ∷ xs) n q (suc t) j = sizing_push xs n q t j

-- a table in the place of another with the same columns
sizing_set : (xs : List Table) (u : ℕ) (b d : Table) (t j : ℕ) → slice_get xs u ≡ Some b → d.columns ≡ b.columns → sizing_in (slice_get (set xs u d) t) j ≡ sizing_in (slice_get xs t) j
sizing_set xs u b d t j there same =
    elim (cases_eq t u) [
      | inl e ↦
          ap (λ k. sizing_in (slice_get (set xs u d) k) j) e ∙ ap (λ o. sizing_in o j) (nth_set_same xs u d b there) ∙
          ap (λ cs. (get_or cs j blank_column).sizing) same ∙ ap (λ o. sizing_in o j) (sym there) ∙ ap (λ k. sizing_in (slice_get xs k) j) (sym e)
      | inr e ↦ ap (λ o. sizing_in o j) (nth_set_other xs u d t e)
    ]

-- a column that is sized, among the columns of its table
sizing_here : (b : Table) (i j f : ℕ) → i < length b.columns → sizing_in (Some (with_sizing b i f)) j ≡ cond (eqb i j) (sizing_of f) (sizing_in (Some b) j)
sizing_here b i j f h =
    let c : Column = sized (get_or b.columns i blank_column) f in
    elim (cases_eq j i) [
      | inl e ↦
          ap (λ k. (get_or (set b.columns i c) k blank_column).sizing) e ∙ ap (λ (x : Column). x.sizing) (get_or-set_same b.columns i c blank_column h) ∙
          ap (λ t. cond t (sizing_of f) (sizing_in (Some b) j)) (sym (eq-eqb i j (sym e)))
      | inr e ↦
          ap (λ (x : Column). x.sizing) (get_or-set_other b.columns i j c blank_column e) ∙
          ap (λ t. cond t (sizing_of f) (sizing_in (Some b) j)) (sym (ne_eqb i j (λ z. e (sym z))))
    ]

sizing_width : (xs : List Table) (u i f : ℕ) (b : Table) (t j : ℕ) → slice_get xs u ≡ Some b → i < length b.columns → sizing_in (slice_get (set xs u (with_sizing b i f)) t) j ≡ cond (eqb u t && eqb i j) (sizing_of f) (sizing_in (slice_get xs t) j)
sizing_width xs u i f b t j there h =
    elim (cases_eq t u) [
      | inl e ↦
          ap (λ k. sizing_in (slice_get (set xs u (with_sizing b i f)) k) j) e ∙ ap (λ o. sizing_in o j) (nth_set_same xs u (with_sizing b i f) b there) ∙
          sizing_here b i j f h ∙ ap (λ o. cond (eqb i j) (sizing_of f) (sizing_in o j)) (sym there ∙ ap (slice_get xs) (sym e)) ∙
          ap (λ x. cond (x && eqb i j) (sizing_of f) (sizing_in (slice_get xs t) j)) (sym (eq-eqb u t (sym e)))
      | inr e ↦
          ap (λ o. sizing_in o j) (nth_set_other xs u (with_sizing b i f) t e) ∙
          ap (λ x. cond (x && eqb i j) (sizing_of f) (sizing_in (slice_get xs t) j)) (sym (ne_eqb u t (λ z. e (sym z))))
    ]

module _ (s : State) (g : Sound s) (t j : ℕ) where
  -- the sizing in tables that are told
  to_tables : (x y : Stock Table) → x ≡ y → sizing_in (slice_get x.items t) j ≡ sizing_in (slice_get y.items t) j
  to_tables x y e = ap (λ (z : Stock Table). sizing_in (slice_get z.items t) j) e

  size_start : (n q : ℕ) (r : Result (Stock Table) Fault) → start_tables s.tables n q ≡ r → sizing_at (after_of s (changed s s.laid r)) t j ≡ sizing_at s t j
  size_start n q (Err f) e = refl
  size_start n q (Ok ts) e = to_tables ts (with_new s.tables (blank_table n q)) (start_told s.tables ts n q e) ∙ sizing_push s.tables.items n q t j

  size_row : (u : ℕ) (r : Result (Stock Table) Fault) → row_tables s.tables u ≡ r → sizing_at (after_of s (changed s false r)) t j ≡ sizing_at s t j
  size_row u (Err f) e = refl
  size_row u (Ok ts) e =
      let p = row_told s.tables ts u e in
      to_tables ts (with_item s.tables u (with_row p.0)) p.1.is ∙ sizing_set s.tables.items u p.0 (with_row p.0) t j p.1.there refl

  size_width : (u i f : ℕ) (r : Result (Stock Table) Fault) → width_tables s.tables u i f ≡ r → sizing_at (after_of s (changed s false r)) t j ≡ cond (is_ok (changed s false r) && (eqb u t && eqb i j)) (sizing_of f) (sizing_at s t j)
  size_width u i f (Err h) e = refl
  size_width u i f (Ok ts) e =
      let p = width_told s.tables ts u i f e in
      let b = p.0 in
      to_tables ts (with_item s.tables u (with_sizing b i f)) p.1.1.is ∙
      sizing_width s.tables.items u i f b t j p.1.1.there (omega (arith, p.1.0, (g.standing.able u b p.1.1.there).columns_there))

  module _ (u across down : ℕ) where
    abbrev free : ℕ → Table → ℕ → Bool
    free = by_cells s.cells.items

    size_place : (content : ℕ) (r : Result Added Fault) → place_lists free s.tables s.cells u across down content ≡ r → sizing_at (after_of s (added r)) t j ≡ sizing_at s t j
    size_place content (Err f) e = refl
    size_place content (Ok a) e =
        let p = place_told free s.tables s.cells u across down a content e in
        to_tables a.tables _ p.tables_are ∙ sizing_set s.tables.items u p.adds.table _ t j p.adds.there refl

    size_nest : (n q : ℕ) (r : Result Added Fault) → nest_lists free s.tables s.cells u across down n q ≡ r → sizing_at (after_of s (added r)) t j ≡ sizing_at s t j
    size_nest n q (Err f) e = refl
    size_nest n q (Ok a) e =
        let p = nest_told free s.tables s.cells u across down a n q e in
        let d : Table = with_cell p.adds.table p.adds.column across down in
        to_tables a.tables _ p.tables_are ∙ sizing_push (set s.tables.items u d) n q t j ∙ sizing_set s.tables.items u p.adds.table d t j p.adds.there refl

  sized_next : (c : Call) → sizing_at (next s c) t j ≡ set_by s c t j (sizing_at s t j)
  sized_next (Start n q) = size_start n q (start_tables s.tables n q) refl
  sized_next (Row u) = size_row u (row_tables s.tables u) refl
  sized_next (Place u content across down) = size_place u across down content (place_lists (by_cells s.cells.items) s.tables s.cells u across down content) refl
  sized_next (Nest u across down n q) = size_nest u across down n q (nest_lists (by_cells s.cells.items) s.tables s.cells u across down n q) refl
  sized_next (Width u i f) = size_width u i f (width_tables s.tables u i f) refl

pub sized_run : (s : State) (cs : List Call) (t j : ℕ) → Sound s → sizing_at (run s cs) t j ≡ last_set s cs t j (sizing_at s t j)
sized_run s [] t j g = refl
sized_run s (c ∷ cs) t j g =
    sized_run (next s c) cs t j (sound_next s c g) ∙ ap (last_set (next s c) cs t j) (sized_next s g t j c)

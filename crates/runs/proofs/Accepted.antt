-- What an accepted call tells.
use Rattle.std.proofs.Common.{◌≡◌, ℕ, ◌<◌, Bool, true, false, cond, ◌&&◌, ◌||◌, eqb, ltb, leb, length, Some, None, Ok, Err, Option, Result, sym, refl, ap, arith}
use Rattle.std.specs.List.{slice_get}
use Rattle.std.proofs.lemmas.Bool.{ltb-true}
use Rattle.fault.specs.declared.Fault.{Fault}
use Rattle.plan.specs.declared.record.Cell.{Cell}
use Rattle.plan.specs.declared.record.Table.{Table}
use Rattle.plan.specs.declared.record.Holds.{Holds}
use Rattle.plan.specs.declared.record.Holds.TheVariants.{Content, Inner}
use Rattle.plan.specs.Blank.{blank_table}
use Rattle.plan.specs.Stock.{Stock, full, with_new, with_item}
use Rattle.plan.specs.Steps.{Added, table_range, span_range, columns_of, column_for, start_tables, row_at, row_tables, width_at, width_tables, new_cell, with_row, with_sizing, with_cell, place_in, place_at, place_lists, nest_in, nest_at, nest_lists}

module _ {A : Type 0} where
  pub ok_same : (a b : A) → ◌≡◌ {A = Result A Fault} (Ok a) (Ok b) → a ≡ b
  ok_same a b e = cc

  err_ok : (f : Fault) (a : A) → ◌≡◌ {A = Result A Fault} (Err f) (Ok a) → ⊥
  err_ok f a e = let z : ◌≡◌ {A = ℕ} 0 1 = cc in omega arith

  -- a test that has to hold, and one that must not
  pub cond_ok : (t : Bool) (x : Result A Fault) (f : Fault) (a : A) → cond t x (Err f) ≡ Ok a → (t ≡ true) × (x ≡ Ok a)
  cond_ok true x f a e = (refl, e)
  cond_ok false x f a e = absurd (err_ok f a e)

  pub cond_no : (t : Bool) (x : Result A Fault) (f : Fault) (a : A) → cond t (Err f) x ≡ Ok a → (t ≡ false) × (x ≡ Ok a)
  cond_no true x f a e = absurd (err_ok f a e)
  cond_no false x f a e = (refl, e)

-- ---- start, row and width

pub start_told : (ts ts' : Stock Table) (n q : ℕ) → start_tables ts n q ≡ Ok ts' → ts' ≡ with_new ts (blank_table n q)
start_told ts ts' n q e =
    let p = cond_ok (table_range n q) _ _ ts' e in
    let u = cond_ok (eqb (length ts.items) 0) _ _ ts' p.1 in
    sym (ok_same (with_new ts (blank_table n q)) ts' (cond_no (full 64 ts) _ _ ts' u.1).1)

-- table t was b, and is d now
pub record Changes (ts ts' : Stock Table) (t : ℕ) (b d : Table) : Type 0 where
  pub there : slice_get ts.items t ≡ Some b
  pub is : ts' ≡ with_item ts t d

row_at_told : (ts ts' : Stock Table) (t : ℕ) (o : Option Table) → slice_get ts.items t ≡ o → row_at ts t o ≡ Ok ts' → (b : Table) × Changes ts ts' t b (with_row b)
row_at_told ts ts' t None q e = absurd (err_ok _ ts' e)
row_at_told ts ts' t (Some b) q e = (b, record { there = q; is = sym (ok_same (with_item ts t (with_row b)) ts' (cond_ok (ltb b.begun 64) _ _ ts' e).1) })

pub row_told : (ts ts' : Stock Table) (t : ℕ) → row_tables ts t ≡ Ok ts' → (b : Table) × Changes ts ts' t b (with_row b)
row_told ts ts' t e = row_at_told ts ts' t (slice_get ts.items t) refl e

width_at_told : (ts ts' : Stock Table) (t j f : ℕ) (o : Option Table) → slice_get ts.items t ≡ o → width_at ts t j f o ≡ Ok ts' → (b : Table) × ((j < columns_of b) × Changes ts ts' t b (with_sizing b j f))
width_at_told ts ts' t j f None q e = absurd (err_ok _ ts' e)
width_at_told ts ts' t j f (Some b) q e =
    let p = cond_ok (ltb j (columns_of b)) _ _ ts' e in
    (b, (ltb-true j (columns_of b) p.0, record { there = q; is = sym (ok_same (with_item ts t (with_sizing b j f)) ts' p.1) }))

pub width_told : (ts ts' : Stock Table) (t j f : ℕ) → width_tables ts t j f ≡ Ok ts' → (b : Table) × ((j < columns_of b) × Changes ts ts' t b (with_sizing b j f))
width_told ts ts' t j f e = width_at_told ts ts' t j f (slice_get ts.items t) refl (cond_ok (leb f 1000) _ _ ts' e).1

-- ---- place and nest

-- a cell more at column j of table t, which was b
pub record Adds (ts : Stock Table) (cs : Stock Cell) (t across down : ℕ) (holds : Holds) (a : Added) : Type 0 where
  pub table : Table
  pub column : ℕ
  pub there : slice_get ts.items t ≡ Some table
  pub cells_are : a.cells ≡ with_new cs (new_cell t table column across down holds)

module _ (free : ℕ → Table → ℕ → Bool) (ts : Stock Table) (cs : Stock Cell) (t across down : ℕ) (a : Added) where
  pub record Places (content : ℕ) : Type 0 where
    pub adds : Adds ts cs t across down (Content content) a
    pub answer_is : a.answer ≡ length cs.items
    pub tables_are : a.tables ≡ with_item ts t (with_cell adds.table adds.column across down)

  place_in_told : (content : ℕ) (b : Table) → slice_get ts.items t ≡ Some b → (r : Result ℕ Fault) → place_in free ts cs t across down content b r ≡ Ok a → Places content
  place_in_told content b q (Err f) e = absurd (err_ok f a e)
  place_in_told content b q (Ok j) e =
      let p = sym (ok_same _ a (cond_no (full 1024 cs) _ _ a e).1) in
      record {
        adds = record { table = b; column = j; there = q; cells_are = ap (λ (x : Added). x.cells) p };
        answer_is = ap (λ (x : Added). x.answer) p;
        tables_are = ap (λ (x : Added). x.tables) p;
      }

  place_at_told : (content : ℕ) (o : Option Table) → slice_get ts.items t ≡ o → place_at free ts cs t across down content o ≡ Ok a → Places content
  place_at_told content None q e = absurd (err_ok _ a e)
  place_at_told content (Some b) q e = place_in_told content b q (column_for (free t b) b across down) e

  pub place_told : (content : ℕ) → place_lists free ts cs t across down content ≡ Ok a → Places content
  place_told content e = place_at_told content (slice_get ts.items t) refl (cond_ok (span_range across down) _ _ a e).1

  pub record Nests (n q : ℕ) : Type 0 where
    pub adds : Adds ts cs t across down (Inner (length ts.items)) a
    pub answer_is : a.answer ≡ length ts.items
    pub tables_are : a.tables ≡ with_new (with_item ts t (with_cell adds.table adds.column across down)) (blank_table n q)

  nest_in_told : (n q : ℕ) (b : Table) → slice_get ts.items t ≡ Some b → (r : Result ℕ Fault) → nest_in free ts cs t across down n q b r ≡ Ok a → Nests n q
  nest_in_told n q b h (Err f) e = absurd (err_ok f a e)
  nest_in_told n q b h (Ok j) e =
      let p = sym (ok_same _ a (cond_no (full 1024 cs || full 64 ts) _ _ a e).1) in
      record {
        adds = record { table = b; column = j; there = h; cells_are = ap (λ (x : Added). x.cells) p };
        answer_is = ap (λ (x : Added). x.answer) p;
        tables_are = ap (λ (x : Added). x.tables) p;
      }

  nest_at_told : (n q : ℕ) (o : Option Table) → slice_get ts.items t ≡ o → nest_at free ts cs t across down n q o ≡ Ok a → Nests n q
  nest_at_told n q None h e = absurd (err_ok _ a e)
  nest_at_told n q (Some b) h e = nest_in_told n q b h (column_for (free t b) b across down) e

  pub nest_told : (n q : ℕ) → nest_lists free ts cs t across down n q ≡ Ok a → Nests n q
  nest_told n q e = nest_at_told n q (slice_get ts.items t) refl (cond_ok (span_range across down && table_range n q) _ _ a e).1

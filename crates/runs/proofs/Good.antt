-- After every run the plan of the sheet is good.
use Rattle.std.proofs.Common.{◌≡◌, ℕ, ◌+◌, ◌<◌, ◌≤◌, Bool, true, false, ◌&&◌, ◌||◌, eqb, ltb, leb, List, [], ◌∷◌, ◌++◌, length, get_or, set, Some, None, Ok, Err, Option, Result, sym, refl, ◌∙◌, subst, arith, length-set}
use Rattle.std.specs.List.{slice_get}
use Rattle.std.proofs.lemmas.List.{length_push}
use Rattle.std.proofs.lemmas.Bool.{cond_both, and_parts, or_parts, leb-false, ltb-true, eqb-true}
use Rattle.std.proofs.lemmas.Bool.Decides.{nat_tests}
use Rattle.fault.specs.declared.Fault.{Fault}
use Rattle.plan.specs.declared.record.Cell.{Cell}
use Rattle.plan.specs.declared.record.Table.{Table}
use Rattle.plan.specs.declared.record.Holds.TheVariants.{Content, Inner}
use Rattle.plan.specs.Blank.{blank_column, blank_table}
use Rattle.plan.specs.Stock.{Stock, full}
use Rattle.plan.specs.Steps.{table_range, span_range, columns_of, current_row, row_at, width_at, spot_to, column_for, sized, new_cell, with_row, with_sizing, with_cell, place_in, place_at, nest_in, nest_at}
use Rattle.plan.specs.Taken.{spot}
use Rattle.plan.proofs.Spots.{spot_found}
use Rattle.plan.specs.Cells.{by_cells}
use Rattle.runs.specs.State.{State, empty}
use Rattle.runs.specs.Calls.{Call, Start, Row, Place, Nest, Width, changed, added, after_of, next, run, Reached}
use Rattle.std.proofs.lemmas.Option.{slice_get_within}
use Rattle.runs.proofs.Standing.{Standing, standing_none, standing_table, Kept, standing_kept, Fitting, standing_cell}
use Rattle.runs.proofs.Nested.{Nested, nested_none, nested_first, nested_content, nested_inner}

-- of the items of the two lists
pub record Good (ts : List Table) (cs : List Cell) : Type 0 where
  pub few_tables : length ts ≤ 64
  pub few_cells : length cs ≤ 1024
  pub standing : Standing ts cs
  pub nested : Nested (length ts) cs

abbrev pub Sound : State → Type 0
Sound s = Good s.tables.items s.cells.items

pub sound_empty : (ts : List Table) (cs : List Cell) → Sound (empty ts cs)
sound_empty ts cs = record { few_tables = omega arith; few_cells = omega arith; standing = standing_none; nested = nested_none }

-- ---- what the tests tell

table_ranges : (n q : ℕ) → table_range n q ≡ true → (1 ≤ n) × (n ≤ 32) × (q ≤ 8)
table_ranges n q e = (grind (arith, nat_tests), grind (arith, nat_tests), grind (arith, nat_tests))

span_ranges : (across down : ℕ) → span_range across down ≡ true → (1 ≤ across) × (1 ≤ down)
span_ranges across down e = (grind (arith, nat_tests), grind (arith, nat_tests))

room_left : {A : Type 0} (limit : ℕ) (s : Stock A) → full limit s ≡ false → length s.items < limit
room_left limit s e = leb-false limit (length s.items) (or_parts (eqb (length s.spare) 0) (leb limit (length s.items)) e).1

spot_told : (o : Option ℕ) (end j : ℕ) → spot_to end o ≡ Ok j → (o ≡ Some j) × (end ≤ 64)
spot_told None end j e = let z : ◌≡◌ {A = ℕ} 0 1 = cc in absurd (omega arith)
spot_told (Some i) end j e = (grind (arith, nat_tests), grind (arith, nat_tests))

pub column_told : (free : ℕ → Bool) (b : Table) (across down j : ℕ) → column_for free b across down ≡ Ok j → (0 < b.begun) × (spot free (columns_of b) across ≡ Some j) × (current_row b + down ≤ 64)
column_told free b across down j e =
    let some : 0 < b.begun = grind (arith, nat_tests) in
    let rest : spot_to (current_row b + down) (spot free (columns_of b) across) ≡ Ok j = grind (arith, nat_tests) in
    let p = spot_told (spot free (columns_of b) across) (current_row b + down) j rest in
    (some, p.0, p.1)

-- ---- start

good_start : (s : State) (n q : ℕ) → Sound s → Sound (next s (Start n q))
good_start s n q g =
    let Held : Result (Stock Table) Fault → Type 0 = λ z. Sound (after_of s (changed s s.laid z)) in
    cond_both (table_range n q) _ _ Held
    (λ range. cond_both (eqb (length s.tables.items) 0) _ _ Held
    (λ none. cond_both (full 64 s.tables) _ _ Held (λ _. g) (λ room.
    let r = table_ranges n q range in
    let len = length_push s.tables.items (blank_table n q) in
    record {
      few_tables = omega (arith, room_left 64 s.tables room);
      few_cells = g.few_cells;
      standing = standing_table s.tables.items s.cells.items n q r.0 r.1 r.2 g.standing;
      nested = subst (λ m. Nested m s.cells.items) (sym len) (nested_first (length s.tables.items) s.cells.items (eqb-true (length s.tables.items) 0 none) g.nested);
    }))
    (λ _. g))
    (λ _. g)

-- ---- row and width: a table in the place of another

good_kept : (ts : List Table) (cs : List Cell) (t : ℕ) (b d : Table) → slice_get ts t ≡ Some b → Kept b d → Good ts cs → Good (set ts t d) cs
good_kept ts cs t b d e k g = record {
  few_tables = omega (arith, g.few_tables, length-set ts t d);
  few_cells = g.few_cells;
  standing = standing_kept ts cs t b d e k g.standing;
  nested = subst (λ m. Nested m cs) (sym (length-set ts t d)) g.nested;
}

good_row : (s : State) (t : ℕ) (o : Option Table) → slice_get s.tables.items t ≡ o → Sound s → Sound (after_of s (changed s false (row_at s.tables t o)))
good_row s t None e g = g
good_row s t (Some b) e g =
    cond_both (ltb b.begun 64) _ _ (λ z. Sound (after_of s (changed s false z)))
    (λ h.
    let a = g.standing.able t b e in
    good_kept s.tables.items s.cells.items t b (with_row b) e
    (record {
      able = record { some = a.some; few = a.few; narrow = a.narrow; in_rows = omega arith; rows = omega (arith, a.rows, ltb-true b.begun 64 h); columns_there = a.columns_there; rows_there = a.rows_there };
      count_is = refl;
      taken_is = refl;
      begun_up = omega arith;
      reached_up = omega arith;
    }) g)
    (λ _. g)

good_width : (s : State) (t j f : ℕ) (o : Option Table) → slice_get s.tables.items t ≡ o → Sound s → Sound (after_of s (changed s false (width_at s.tables t j f o)))
good_width s t j f None e g = g
good_width s t j f (Some b) e g =
    cond_both (ltb j (columns_of b)) _ _ (λ z. Sound (after_of s (changed s false z)))
    (λ _.
    let a = g.standing.able t b e in
    good_kept s.tables.items s.cells.items t b (with_sizing b j f) e
    (record {
      able = record { some = a.some; few = a.few; narrow = a.narrow; in_rows = a.in_rows; rows = a.rows; columns_there = length-set b.columns j (sized (get_or b.columns j blank_column) f) ∙ a.columns_there; rows_there = a.rows_there };
      count_is = refl;
      taken_is = refl;
      begun_up = omega arith;
      reached_up = omega arith;
    }) g)
    (λ _. g)

-- ---- place and nest

module _ (s : State) (t across down : ℕ) (range : span_range across down ≡ true) (b : Table) (e : slice_get s.tables.items t ≡ Some b) (j : ℕ) (told : column_for (by_cells s.cells.items t b) b across down ≡ Ok j) where
  fitting : Fitting s.tables.items s.cells.items t b e j across down
  fitting =
      let p = column_told (by_cells s.cells.items t b) b across down j told in
      let f = spot_found (by_cells s.cells.items t b) (columns_of b) across j p.1 in
      let r = span_ranges across down range in
      record { some = p.0; wide = r.0; tall = r.1; within = f.within; low = p.2; clear_is = f.clear_is; lowest_is = f.lowest_is }

  pub good_place : (content : ℕ) → Sound s → Sound (after_of s (added (place_in (by_cells s.cells.items) s.tables s.cells t across down content b (Ok j))))
  good_place content g =
      cond_both (full 1024 s.cells) _ _ (λ z. Sound (after_of s (added z))) (λ _. g)
      (λ room.
      let c : Cell = new_cell t b j across down (Content content) in
      let d : Table = with_cell b j across down in
      record {
        few_tables = omega (arith, g.few_tables, length-set s.tables.items t d);
        few_cells = omega (arith, room_left 1024 s.cells room, length_push s.cells.items c);
        standing = standing_cell s.tables.items s.cells.items t b e j across down (Content content) fitting g.standing;
        nested = subst (λ m. Nested m (s.cells.items ++ c ∷ [])) (sym (length-set s.tables.items t d)) (nested_content (length s.tables.items) s.cells.items c content refl g.nested);
      })

  pub good_nest : (n q : ℕ) → table_range n q ≡ true → Sound s → Sound (after_of s (added (nest_in (by_cells s.cells.items) s.tables s.cells t across down n q b (Ok j))))
  good_nest n q shape g =
      cond_both (full 1024 s.cells || full 64 s.tables) _ _ (λ z. Sound (after_of s (added z))) (λ _. g)
      (λ room.
      let m : ℕ = length s.tables.items in
      let c : Cell = new_cell t b j across down (Inner m) in
      let d : Table = with_cell b j across down in
      let rooms = or_parts (full 1024 s.cells) (full 64 s.tables) room in
      let r = table_ranges n q shape in
      let len : length (set s.tables.items t d ++ blank_table n q ∷ []) ≡ m + 1 = length_push (set s.tables.items t d) (blank_table n q) ∙ omega (arith, length-set s.tables.items t d) in
      record {
        few_tables = omega (arith, room_left 64 s.tables rooms.1);
        few_cells = omega (arith, room_left 1024 s.cells rooms.0, length_push s.cells.items c);
        standing = standing_table (set s.tables.items t d) (s.cells.items ++ c ∷ []) n q r.0 r.1 r.2 (standing_cell s.tables.items s.cells.items t b e j across down (Inner m) fitting g.standing);
        nested = subst (λ k. Nested k (s.cells.items ++ c ∷ [])) (sym len) (nested_inner m s.cells.items c refl (slice_get_within s.tables.items t b e) g.standing.known g.nested);
      })

module _ (s : State) (t across down : ℕ) (range : span_range across down ≡ true) (g : Sound s) where
  abbrev free : ℕ → Table → ℕ → Bool
  free = by_cells s.cells.items

  good_place_in : (content : ℕ) (b : Table) → slice_get s.tables.items t ≡ Some b → (r : Result ℕ Fault) → column_for (free t b) b across down ≡ r → Sound (after_of s (added (place_in free s.tables s.cells t across down content b r)))
  good_place_in content b e (Ok j) told = good_place s t across down range b e j told content g
  good_place_in content b e (Err f) told = g

  good_place_at : (content : ℕ) (o : Option Table) → slice_get s.tables.items t ≡ o → Sound (after_of s (added (place_at free s.tables s.cells t across down content o)))
  good_place_at content None e = g
  good_place_at content (Some b) e = good_place_in content b e (column_for (free t b) b across down) refl

  module _ (n q : ℕ) (shape : table_range n q ≡ true) where
    good_nest_in : (b : Table) → slice_get s.tables.items t ≡ Some b → (r : Result ℕ Fault) → column_for (free t b) b across down ≡ r → Sound (after_of s (added (nest_in free s.tables s.cells t across down n q b r)))
    good_nest_in b e (Ok j) told = good_nest s t across down range b e j told n q shape g
    good_nest_in b e (Err f) told = g

    good_nest_at : (o : Option Table) → slice_get s.tables.items t ≡ o → Sound (after_of s (added (nest_at free s.tables s.cells t across down n q o)))
    good_nest_at None e = g
    good_nest_at (Some b) e = good_nest_in b e (column_for (free t b) b across down) refl

-- ---- every call, and every run

pub sound_next : (s : State) (c : Call) → Sound s → Sound (next s c)
sound_next s (Start n q) g = good_start s n q g
sound_next s (Row t) g = good_row s t (slice_get s.tables.items t) refl g
sound_next s (Place t content across down) g =
    cond_both (span_range across down) _ _ (λ z. Sound (after_of s (added z)))
    (λ range. good_place_at s t across down range g content (slice_get s.tables.items t) refl)
    (λ _. g)
sound_next s (Nest t across down n q) g =
    cond_both (span_range across down && table_range n q) _ _ (λ z. Sound (after_of s (added z)))
    (λ e. let p = and_parts (span_range across down) (table_range n q) e in good_nest_at s t across down p.0 g n q p.1 (slice_get s.tables.items t) refl)
    (λ _. g)
sound_next s (Width t j f) g =
    cond_both (leb f 1000) _ _ (λ z. Sound (after_of s (changed s false z)))
    (λ _. good_width s t j f (slice_get s.tables.items t) refl g)
    (λ _. g)

pub sound_run : (s : State) (cs : List Call) → Sound s → Sound (run s cs)
sound_run s [] g = g
sound_run s (c ∷ cs) g = sound_run (next s c) cs (sound_next s c g)

pub sound_reached : (s : State) → Reached s → Sound s
sound_reached s r = subst Sound r.is (sound_run (empty r.table_places r.cell_places) r.calls (sound_empty r.table_places r.cell_places))

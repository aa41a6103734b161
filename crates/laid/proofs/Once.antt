-- Measures that fit are the only ones that do.
use Rattle.std.proofs.Common.{◌≡◌, ℕ, zero, suc, ◌+◌, ◌<◌, ◌≤◌, min, List, [], ◌∷◌, map, length, Some, None, Option, sym, refl, ap, ◌∙◌, ap₂, arith}
use Rattle.std.specs.List.{slice_get}
use Rattle.shelf.specs.Shelves.{Meaning}
use Rattle.plan.specs.declared.record.Cell.{Cell}
use Rattle.plan.specs.declared.record.Column.{Column}
use Rattle.plan.specs.declared.record.Rect.{Rect}
use Rattle.plan.specs.declared.record.Table.{Table}
use Rattle.plan.specs.Planned.{Planned}
use Rattle.columns.specs.Columns.{columns_of, rows_of, widths_of}
use Rattle.columns.specs.Tables.{own_columns, widths, heights, row_count}
use Rattle.columns.specs.Tracks.{begins, extent}
use Rattle.laid.specs.Views.{seen, least_in, greatest_in, height_in, cell_width, holder}
use Rattle.laid.specs.Layout.{wants, row_wants, offer_of, corner, rect_in, clear_column, clear_table, clear_cell}
use Rattle.laid.specs.Fits.{bare, Fits}
use Rattle.laid.specs.Laws.{SameTables, SameCells, Alike}
use Rattle.laid.proofs.Listing.{nth_some, nth_below}
use Rattle.laid.proofs.Made.{held_by, wants_by, offer_by, row_wants_by}
use Rattle.laid.proofs.Plans.{Good, good}
use Rattle.laid.proofs.Twins.{twin, twins, SameBare, widths_by_bare, spacing_is, clears_are, wide_by, Both, least_two, greatest_two, height_two, width_two, wants_twin, row_wants_twin, holder_twin, offer_twin}

-- members that are equal in two views are equal
columns_eq : (cs ds : List Column) → SameBare cs ds → map (λ c. c.width) cs ≡ map (λ c. c.width) ds → cs ≡ ds
columns_eq [] [] p q = refl
columns_eq [] (d ∷ ds) p q = let z : ◌≡◌ {A = ℕ} 0 1 = cc in absurd (omega arith)
columns_eq (c ∷ cs) [] p q = let z : ◌≡◌ {A = ℕ} 0 1 = cc in absurd (omega arith)
columns_eq (c ∷ cs) (d ∷ ds) p q =
    let b : bare c ≡ bare d = cc in
    let w : c.width ≡ d.width = cc in
    let bs : SameBare cs ds = cc in
    let ws : map (λ (x : Column). x.width) cs ≡ map (λ (x : Column). x.width) ds = cc in
    let one : c ≡ d = λ i. record { sizing = (b i).sizing; least = (b i).least; greatest = (b i).greatest; width = w i } in
    ap₂ (λ x xs. x ∷ xs) one (columns_eq cs ds bs ws)

cells_eq : (cs ds : List Cell) → SameCells cs ds → ((i : ℕ) (x y : Cell) → slice_get cs i ≡ Some x → slice_get ds i ≡ Some y → x.rect ≡ y.rect) → cs ≡ ds
cells_eq [] [] p h = refl
cells_eq [] (d ∷ ds) p h = let z : ◌≡◌ {A = ℕ} 0 1 = cc in absurd (omega arith)
cells_eq (c ∷ cs) [] p h = let z : ◌≡◌ {A = ℕ} 0 1 = cc in absurd (omega arith)
cells_eq (c ∷ cs) (d ∷ ds) p h =
    let e : clear_cell c ≡ clear_cell d = cc in
    let es : SameCells cs ds = cc in
    let r : c.rect ≡ d.rect = h 0 c d refl refl in
    let one : c ≡ d = λ i. record { table = (e i).table; row = (e i).row; column = (e i).column; across = (e i).across; down = (e i).down; holds = (e i).holds; rect = r i } in
    ap₂ (λ x xs. x ∷ xs) one (cells_eq cs ds es (λ i. h (suc i)))

rect_by : (b d : Table) (p q : ℕ × ℕ) (x y : Cell) → b.spacing ≡ d.spacing → widths b ≡ widths d → heights b ≡ heights d → p ≡ q → clear_cell x ≡ clear_cell y →
    rect_in b p x ≡ rect_in d q y
rect_by b d p q x y s w h e c = λ i. record {
  left = (e i).0 + begins (s i) (w i) (c i).column;
  top = (e i).1 + begins (s i) (h i) (c i).row;
  width = extent (s i) (w i) (c i).column (c i).across;
  height = extent (s i) (h i) (c i).row (c i).down;
}

module _ (m : Meaning) (A : ℕ) (ts us : List Table) (cs ds : List Cell) (g : Good ts cs) (st : SameTables ts us) (sc : SameCells cs ds)
    (f : Fits m A ts cs) (k : Fits m A us ds) where
  same : (t : ℕ) → Both ts us (λ b d. clear_table b ≡ clear_table d) t
  same = twins clear_table ts us st

  -- from the highest table down: the columns
  columns_once : (n t : ℕ) → length ts ≤ t + n → Both ts us (λ b d. SameBare (own_columns b) (own_columns d)) t
  columns_once zero t l b d e h = absurd (omega (arith, nth_below ts t b e))
  columns_once (suc n) t l b d e h =
      let s = same t b d e h in
      let asks : wants m ts cs t b ≡ wants m us ds t d =
      wants_by ts cs g m (least_in ts) (least_in us) (greatest_in ts) (greatest_in us) t b d (ap (λ (z : Table). z.count) s)
      (λ u lu. least_two ts us st u (columns_once n u (omega arith))) (λ u lu. greatest_two ts us st u (columns_once n u (omega arith)))
      ∙ wants_twin cs ds sc m us t d in
      let rule : columns_of b.spacing (map clear_column (own_columns b)) (wants m ts cs t b) ≡ columns_of d.spacing (map clear_column (own_columns d)) (wants m us ds t d) =
      λ i. columns_of (spacing_is b d s i) (clears_are b d s i) (asks i) in
      (f.tables_fit t b e).columns_fit ∙ (rule ∙ sym (k.tables_fit t d h).columns_fit)

  bare_once : (t : ℕ) → Both ts us (λ b d. SameBare (own_columns b) (own_columns d)) t
  bare_once t = columns_once (length ts) t (omega arith)

  -- going up: the offers
  offer_two : (t : ℕ) → ((c : Cell) → c.table < t → cell_width ts c ≡ cell_width us c) → offer_of A cs ts t ≡ offer_of A ds us t
  unfolding offer_of
  offer_two t h = offer_by ts cs g A ts us t h (holder t cs) refl ∙ offer_twin cs ds sc A us t

  widths_once : (n t : ℕ) → t < n → Both ts us (λ b d. widths b ≡ widths d) t
  widths_once zero t l b d e h = absurd (omega arith)
  widths_once (suc n) t l b d e h =
      let o : offer_of A cs ts t ≡ offer_of A ds us t = offer_two t (λ c lc. width_two ts us st c (widths_once n c.table (omega arith))) in
      let rule : widths_of b.spacing (own_columns b) (offer_of A cs ts t) ≡ widths_of d.spacing (own_columns b) (offer_of A ds us t) =
      ap₂ (λ x y. widths_of x (own_columns b) y) (spacing_is b d (same t b d e h)) o in
      (f.tables_fit t b e).widths_fit
      ∙ (rule ∙ (widths_by_bare d.spacing (own_columns b) (own_columns d) (offer_of A ds us t) (bare_once t b d e h) ∙ sym (k.tables_fit t d h).widths_fit))

  all_widths : (t : ℕ) → Both ts us (λ b d. widths b ≡ widths d) t
  all_widths t = widths_once (suc t) t (omega arith)

  -- from the highest table down: the rows
  heights_once : (n t : ℕ) → length ts ≤ t + n → Both ts us (λ b d. heights b ≡ heights d) t
  heights_once zero t l b d e h = absurd (omega (arith, nth_below ts t b e))
  heights_once (suc n) t l b d e h =
      let s = same t b d e h in
      let asks : row_wants m ts cs t b ≡ row_wants m us ds t d =
      row_wants_by ts cs g m (height_in ts) (height_in us) t b d (ap (λ (z : Table). z.reached) s)
      (λ u lu. height_two ts us st u (heights_once n u (omega arith))) (wide_by b d s (all_widths t b d e h))
      ∙ row_wants_twin cs ds sc m us t d in
      let rule : rows_of b.spacing (row_count b) (row_wants m ts cs t b) ≡ rows_of d.spacing (row_count d) (row_wants m us ds t d) =
      λ i. rows_of (spacing_is b d s i) (min (s i).reached 64) (asks i) in
      (f.tables_fit t b e).heights_fit ∙ (rule ∙ sym (k.tables_fit t d h).heights_fit)

  all_heights : (t : ℕ) → Both ts us (λ b d. heights b ≡ heights d) t
  all_heights t = heights_once (length ts) t (omega arith)

  -- going up: the boxes
  abbrev Boxed : ℕ → Type 0
  Boxed i = (x y : Cell) → slice_get cs i ≡ Some x → slice_get ds i ≡ Some y → x.rect ≡ y.rect

  corner_two : (i : ℕ) (c : Cell) → slice_get cs i ≡ Some c → ((j : ℕ) → j < i → Boxed j) → (o : Option ℕ) → holder c.table cs ≡ o → corner cs o ≡ corner ds o
  unfolding corner
  corner_two i c e h None q = refl
  corner_two i c e h (Some j) q =
      let r = held_by c.table cs j q in
      let w = twin clear_cell cs ds sc j r.0 r.1 in
      let box = h j (g.before j i r.0 c r.1 e r.2) r.0 w.0 r.1 w.1 in
      let p : Cell → ℕ × ℕ = λ d. (d.rect.left, d.rect.top) in
      ap (seen p (0, 0)) r.1 ∙ (ap (λ (z : Rect). (z.left, z.top)) box ∙ sym (ap (seen p (0, 0)) w.1))

  rects_once : (n i : ℕ) → i < n → Boxed i
  rects_once zero i l x y e h = absurd (omega arith)
  rects_once (suc n) i l x y e h =
      let s = twins clear_cell cs ds sc i x y e h in
      let t : x.table ≡ y.table = ap (λ (z : Cell). z.table) s in
      let b = nth_some ts x.table (g.known i x e) in
      let w = twin clear_table ts us st x.table b.0 b.1 in
      let c : corner cs (holder x.table cs) ≡ corner ds (holder y.table ds) =
      corner_two i x e (λ j lj. rects_once n j (omega arith)) (holder x.table cs) refl
      ∙ ap (corner ds) (holder_twin cs ds sc x.table ∙ ap (λ u. holder u ds) t) in
      f.boxes_fit i x b.0 e b.1
      ∙ (rect_by b.0 w.0 _ _ x y (spacing_is b.0 w.0 w.2) (all_widths x.table b.0 w.0 b.1 w.1) (all_heights x.table b.0 w.0 b.1 w.1) c s
      ∙ sym (k.boxes_fit i y w.0 h (ap (slice_get us) (sym t) ∙ w.1)))

  alike : Alike ts us cs ds
  alike = record {
    columns_alike = λ t b d e h. columns_eq (own_columns b) (own_columns d) (bare_once t b d e h) (all_widths t b d e h);
    heights_alike = all_heights;
    cells_alike = cells_eq cs ds sc (λ i. rects_once (suc i) i (omega arith));
  }

pub fits_once : (m : Meaning) (A : ℕ) (ts us : List Table) (cs ds : List Cell) → Planned ts cs → SameTables us ts → SameCells ds cs → Fits m A ts cs → Fits m A us ds → Alike ts us cs ds
fits_once m A ts us cs ds p st sc = alike m A ts us cs ds (good ts cs p) (sym st) (sym sc)

-- The laws of a sheet whose measures fit.
use Rattle.std.proofs.Common.{◌≡◌, ℕ, zero, suc, ◌+◌, ◌<◌, ◌≤◌, max, true, List, length, Some, sym, refl, ap, ◌∙◌, subst, subst₂, arith}
use Rattle.std.specs.List.{slice_get}
use Rattle.std.proofs.lemmas.Bool.Decides.{nat_tests}
use Rattle.shelf.specs.Shelves.{Meaning, Fitting, widest}
use Rattle.plan.specs.declared.record.Cell.{Cell}
use Rattle.plan.specs.declared.record.Holds.TheVariants.{Content, Inner}
use Rattle.plan.specs.declared.record.Rect.{Rect}
use Rattle.plan.specs.declared.record.Table.{Table}
use Rattle.plan.specs.Cells.{takes}
use Rattle.plan.specs.Planned.{Within, Planned}
use Rattle.columns.specs.Columns.{least_width, widths_of}
use Rattle.columns.specs.Tables.{own_columns, widths, heights}
use Rattle.columns.specs.Tracks.{begins, whole}
use Rattle.laid.specs.Views.{seen, height_in, wide_in, tall_in, cell_width, holder}
use Rattle.laid.specs.Layout.{height_asked, offer_of, corner}
use Rattle.laid.specs.Fits.{ColumnsFit, Fits}
use Rattle.laid.specs.Geometry.{Disjoint, Inside}
use Rattle.laid.specs.Laws.{area_of, OfferedWell, Laid}
use Rattle.laid.proofs.Listing.{nth_some, nth_below}
use Rattle.laid.proofs.Members.{corner_is}
use Rattle.laid.proofs.Plans.{Good, good}
use Rattle.laid.proofs.Tracks.{ends_within, begun_before}
use Rattle.laid.proofs.One as one
use Rattle.laid.proofs.Boxes.{inner_tall}
use Rattle.laid.proofs.Widths as wide
use Rattle.laid.proofs.Sound.{geometry_is_sound}

-- the area of a table is as large as the table
area_wide : (ts : List Table) (cs : List Cell) (u : ℕ) (b : Table) → slice_get ts u ≡ Some b → (area_of ts cs u).width ≡ whole b.spacing (widths b)
area_wide ts cs u b e = ap (seen (λ (d : Table). whole d.spacing (widths d)) 0) e

area_tall : (ts : List Table) (cs : List Cell) (u : ℕ) (b : Table) → slice_get ts u ≡ Some b → (area_of ts cs u).height ≡ whole b.spacing (heights b)
area_tall ts cs u b e = ap (seen (λ (d : Table). whole d.spacing (heights d)) 0) e

taken : (c : Cell) (r j : ℕ) → c.row ≤ r → r < c.row + c.down → c.column ≤ j → j < c.column + c.across → takes c r j ≡ true
taken c r j h k l n = grind (arith, nat_tests)

module _ (m : Meaning) (A : ℕ) (ts : List Table) (cs : List Cell) (small : A ≤ widest) (g : Good ts cs) (f : Fits m A ts cs) where
  -- a cell with its table
  record Sits (c : Cell) : Type 0 where
    table : Table
    there : slice_get ts c.table ≡ Some table
    within : Within c table
    left_is : c.rect.left ≡ (corner cs (holder c.table cs)).0 + begins table.spacing (widths table) c.column
    top_is : c.rect.top ≡ (corner cs (holder c.table cs)).1 + begins table.spacing (heights table) c.row
    width_is : c.rect.width ≡ wide_in table c
    height_is : c.rect.height ≡ tall_in table c

  sits : (i : ℕ) (c : Cell) → slice_get cs i ≡ Some c → Sits c
  sits i c e =
      let w = nth_some ts c.table (g.known i c e) in
      let r = f.boxes_fit i c w.0 e w.1 in
      record {
        table = w.0;
        there = w.1;
        within = g.within i c w.0 e w.1;
        left_is = ap (λ (z : Rect). z.left) r;
        top_is = ap (λ (z : Rect). z.top) r;
        width_is = ap (λ (z : Rect). z.width) r;
        height_is = ap (λ (z : Rect). z.height) r;
      }

  box_width : (i : ℕ) (c : Cell) → slice_get cs i ≡ Some c → c.rect.width ≡ cell_width ts c
  box_width i c e = let s = sits i c e in s.width_is ∙ sym (wide.cell_width_is ts c s.table s.there)

  -- ---- the tables

  columns_are : (t : ℕ) (b : Table) → slice_get ts t ≡ Some b → ColumnsFit m ts cs t b
  columns_are t b e = (f.tables_fit t b e).columns_fit

  widths_are : (t : ℕ) (b : Table) → slice_get ts t ≡ Some b → widths b ≡ widths_of b.spacing (own_columns b) (offer_of A cs ts t)
  widths_are t b e = (f.tables_fit t b e).widths_fit

  offered : (t : ℕ) (b : Table) → slice_get ts t ≡ Some b → OfferedWell (offer_of A cs ts t) b
  offered t b e = one.offered_well m ts cs t b (g.able t b e) (columns_are t b e) (offer_of A cs ts t) (widths_are t b e)

  table_small : (t : ℕ) (b : Table) → slice_get ts t ≡ Some b → whole b.spacing (widths b) ≤ widest
  table_small = wide.widths_small A ts cs g m small f.narrow widths_are columns_are

  only_first : (t : ℕ) (b : Table) → slice_get ts t ≡ Some b → offer_of A cs ts t < least_width b.spacing (own_columns b) → t ≡ 0
  only_first zero b e l = refl
  only_first (suc t) b e l =
      let h = g.held (suc t) (omega arith) (nth_below ts (suc t) b e) in
      absurd (omega (arith, wide.offered_enough A ts cs g m small f.narrow widths_are columns_are h.number h.cell (suc t) b h.there h.holds_it e))

  -- ---- the cells

  settable : (i : ℕ) (c : Cell) (k : ℕ) → slice_get cs i ≡ Some c → c.holds ≡ Content k → Fitting m k c.rect.width
  settable i c k e h =
      subst (Fitting m k) (sym (box_width i c e))
      (wide.contents_settable A ts cs g m small f.narrow widths_are columns_are i c k e h (f.shelved i c k e h))

  -- a box is as tall as what the cell holds
  asked_height : (i : ℕ) (c : Cell) → slice_get cs i ≡ Some c → height_asked m (height_in ts) c.rect.width c.holds ≤ c.rect.height
  asked_height i c e =
      let s = sits i c e in
      let h = one.tall_enough m ts cs c.table s.table (g.able c.table s.table s.there) (f.tables_fit c.table s.table s.there).heights_fit i c e s.within refl in
      omega (arith, s.height_is, ap (λ w. height_asked m (height_in ts) w c.holds) s.width_is)

  in_table : (i : ℕ) (c : Cell) → slice_get cs i ≡ Some c → Inside c.rect (area_of ts cs c.table)
  in_table i c e =
      let s = sits i c e in
      let b : Table = s.table in
      let able = g.able c.table b s.there in
      let w = s.within in
      let wl = one.widths_length b able in
      let hl = one.heights_length b able in
      let across = ends_within b.spacing (widths b) c.column c.across w.wide (omega (arith, w.columns)) in
      let down = ends_within b.spacing (heights b) c.row c.down w.tall (omega (arith, w.rows, able.rows)) in
      let aw = area_wide ts cs c.table b s.there in
      let ah = area_tall ts cs c.table b s.there in
      let l = s.left_is in
      let t = s.top_is in
      let x = s.width_is in
      let y = s.height_is in
      record { left_edge = omega arith; right_edge = omega arith; top_edge = omega arith; bottom_edge = omega arith }

  in_holder : (i : ℕ) (c : Cell) (u : ℕ) → slice_get cs i ≡ Some c → c.holds ≡ Inner u → Inside (area_of ts cs u) c.rect
  in_holder i c u e h =
      let n = nth_some ts u (g.there i c u e h) in
      let b : Table = n.0 in
      let there = n.1 in
      let s = sits i c e in
      let across = wide.inner_wide A ts cs g m small f.narrow widths_are columns_are i c u b e h there in
      let down = inner_tall m ts cs g f.low (λ t d k. (f.tables_fit t d k).heights_fit) i c u s.table b e h s.there there in
      let bw = box_width i c e in
      let bh = s.height_is in
      let aw = area_wide ts cs u b there in
      let ah = area_tall ts cs u b there in
      let at = corner_is cs g.once i c u (omega (arith, g.higher i c u e h)) e h in
      let cl = ap (λ (p : ℕ × ℕ). p.0) at in
      let ct = ap (λ (p : ℕ × ℕ). p.1) at in
      record { left_edge = omega arith; right_edge = omega arith; top_edge = omega arith; bottom_edge = omega arith }

  -- two cells of a table
  apart : (i k : ℕ) (a b : Cell) → (i ≡ k → ⊥) → slice_get cs i ≡ Some a → slice_get cs k ≡ Some b → a.table ≡ b.table → Disjoint a.rect b.rect
  apart i k a b d p q e x y ha hb =
      let sa = sits i a p in
      let sb = sits k b q in
      let th = sa.there in
      let th2 = sb.there in
      let same : sb.table ≡ sa.table = cc in
      let T : Table = sa.table in
      let wa = sa.within in
      let wb = sb.within in
      let al = sa.left_is in
      let at = sa.top_is in
      let aw = sa.width_is in
      let ah = sa.height_is in
      let bl : b.rect.left ≡ (corner cs (holder a.table cs)).0 + begins T.spacing (widths T) b.column =
      subst₂ (λ (z : Table) (t : ℕ). b.rect.left ≡ (corner cs (holder t cs)).0 + begins z.spacing (widths z) b.column) same (sym e) sb.left_is in
      let bt : b.rect.top ≡ (corner cs (holder a.table cs)).1 + begins T.spacing (heights T) b.row =
      subst₂ (λ (z : Table) (t : ℕ). b.rect.top ≡ (corner cs (holder t cs)).1 + begins z.spacing (heights z) b.row) same (sym e) sb.top_is in
      let bw : b.rect.width ≡ wide_in T b = subst (λ (z : Table). b.rect.width ≡ wide_in z b) same sb.width_is in
      let bh : b.rect.height ≡ tall_in T b = subst (λ (z : Table). b.rect.height ≡ tall_in z b) same sb.height_is in
      let P : ℕ × ℕ = corner cs (holder a.table cs) in
      let c1 : b.column < a.column + a.across = begun_before T.spacing (widths T) P.0 x a.column a.across b.column wa.wide (omega arith) (omega arith) in
      let c2 : a.column < b.column + b.across = begun_before T.spacing (widths T) P.0 x b.column b.across a.column wb.wide (omega arith) (omega arith) in
      let r1 : b.row < a.row + a.down = begun_before T.spacing (heights T) P.1 y a.row a.down b.row wa.tall (omega arith) (omega arith) in
      let r2 : a.row < b.row + b.down = begun_before T.spacing (heights T) P.1 y b.row b.down a.row wb.tall (omega arith) (omega arith) in
      let r : ℕ = max a.row b.row in
      let j : ℕ = max a.column b.column in
      g.apart i k a b d p q e r j
      (taken a r j (omega arith) (omega (arith, wa.tall)) (omega arith) (omega (arith, wa.wide)))
      (taken b r j (omega arith) (omega (arith, wb.tall)) (omega arith) (omega (arith, wb.wide)))

pub laid_is_sound : (m : Meaning) (A : ℕ) (ts : List Table) (cs : List Cell) → A ≤ widest → 0 < length ts → Planned ts cs → Fits m A ts cs → Laid m A ts cs
laid_is_sound m A ts cs small some p f =
    let g = good ts cs p in
    let n = nth_some ts 0 some in
    record {
      only_first = only_first m A ts cs small g f;
      offered = offered m A ts cs small g f;
      settable = settable m A ts cs small g f;
      room = λ i c k e h. omega (arith, asked_height m A ts cs small g f i c e, ap (height_asked m (height_in ts) c.rect.width) h);
      in_table = in_table m A ts cs small g f;
      in_holder = in_holder m A ts cs small g f;
      cells_apart = apart m A ts cs small g f;
      sound = geometry_is_sound (length ts) cs (area_of ts cs) (record {
        known = g.known;
        higher = g.higher;
        held = g.held;
        inside = in_table m A ts cs small g f;
        nested = in_holder m A ts cs small g f;
        apart = apart m A ts cs small g f;
      });
      page_width = omega (arith, area_wide ts cs 0 n.0 n.1, table_small m A ts cs small g f 0 n.0 n.1);
      page_height = omega (arith, area_tall ts cs 0 n.0 n.1, f.low 0 n.0 n.1);
    }

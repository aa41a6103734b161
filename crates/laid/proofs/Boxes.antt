-- Every box is kept as it is: an inner table lies within its cell's box, so that all boxes lie on the page.
use Rattle.std.proofs.Common.{◌≡◌, ℕ, zero, suc, ◌+◌, ◌≤◌, min, List, Some, refl, ap, ◌∙◌, le_refl, arith}
use Rattle.std.specs.List.{slice_get}
use Rattle.shelf.specs.Shelves.{Meaning, widest, largest}
use Rattle.plan.specs.declared.record.Cell.{Cell}
use Rattle.plan.specs.declared.record.Holds.TheVariants.{Inner}
use Rattle.plan.specs.declared.record.Rect.{Rect}
use Rattle.plan.specs.declared.record.Table.{Table}
use Rattle.columns.specs.Columns.{rows_of}
use Rattle.columns.specs.Tables.{widths, heights, row_count}
use Rattle.columns.specs.Tracks.{begins, whole}
use Rattle.laid.specs.Views.{seen, height_in, wide_in, tall_in, cell_width, holder}
use Rattle.laid.specs.Layout.{height_asked, row_wants, corner, rect_in, kept_rect, tallest}
use Rattle.laid.specs.Fits.{Low}
use Rattle.laid.proofs.Listing.{nth_some, nth_below}
use Rattle.laid.proofs.Members.{corner_is}
use Rattle.laid.proofs.Plans.{Good}
use Rattle.laid.proofs.Tracks.{ends_within}
use Rattle.laid.proofs.Widths.{cell_width_is}
use Rattle.laid.proofs.One as one

-- ---- an inner table is no taller than its cell

height_is : (ts : List Table) (u : ℕ) (b : Table) → slice_get ts u ≡ Some b → height_in ts u ≡ whole b.spacing (heights b)
unfolding height_in
height_is ts u b e = ap (seen (λ (d : Table). whole d.spacing (heights d)) 0) e

pub inner_tall : (m : Meaning) (ts : List Table) (cs : List Cell) → Good ts cs → ((t : ℕ) → Low ts t) →
    ((t : ℕ) (b : Table) → slice_get ts t ≡ Some b → heights b ≡ rows_of b.spacing (row_count b) (row_wants m ts cs t b)) →
    (i : ℕ) (c : Cell) (u : ℕ) (b d : Table) → slice_get cs i ≡ Some c → c.holds ≡ Inner u → slice_get ts c.table ≡ Some b → slice_get ts u ≡ Some d →
    whole d.spacing (heights d) ≤ tall_in b c
inner_tall m ts cs g low heights_are i c u b d e h here there =
    omega (
      arith,
      low u d there,
      height_is ts u d there,
      ap (height_asked m (height_in ts) (wide_in b c)) h,
      one.tall_enough m ts cs c.table b (g.able c.table b here) (heights_are c.table b here) i c e (g.within i c b e here) refl,
    )

-- ---- the boxes

uncapped : (r : Rect) → r.left ≤ largest → r.top ≤ largest → r.width ≤ largest → r.height ≤ largest → kept_rect r ≡ r
uncapped r a b c d =
    let l : min r.left largest ≡ r.left = omega arith in
    let t : min r.top largest ≡ r.top = omega arith in
    let w : min r.width largest ≡ r.width = omega arith in
    let h : min r.height largest ≡ r.height = omega arith in
    λ i. record { left = l i; top = t i; width = w i; height = h i }

module _ (ts : List Table) (cs : List Cell) (g : Good ts cs)
    (narrow : (t : ℕ) (b : Table) → slice_get ts t ≡ Some b → whole b.spacing (widths b) ≤ widest) (low : (t : ℕ) → Low ts t)
    (inner_narrow : (i : ℕ) (c : Cell) (u : ℕ) (d : Table) → slice_get cs i ≡ Some c → c.holds ≡ Inner u → slice_get ts u ≡ Some d → whole d.spacing (widths d) ≤ cell_width ts c)
    (inner_low : (i : ℕ) (c : Cell) (u : ℕ) (b d : Table) → slice_get cs i ≡ Some c → c.holds ≡ Inner u → slice_get ts c.table ≡ Some b → slice_get ts u ≡ Some d →
    whole d.spacing (heights d) ≤ tall_in b c)
    (kept : (i : ℕ) (c : Cell) (b : Table) → slice_get cs i ≡ Some c → slice_get ts c.table ≡ Some b → c.rect ≡ kept_rect (rect_in b (corner cs (holder c.table cs)) c)) where
  -- table t, which is b, ends on the page
  record OnPage (t : ℕ) (b : Table) : Type 0 where
    right : (corner cs (holder t cs)).0 + whole b.spacing (widths b) ≤ widest
    bottom : (corner cs (holder t cs)).1 + whole b.spacing (heights b) ≤ tallest

  -- and so does a cell of it
  record CellOnPage (c : Cell) (b : Table) : Type 0 where
    right : (corner cs (holder c.table cs)).0 + begins b.spacing (widths b) c.column + wide_in b c ≤ widest
    bottom : (corner cs (holder c.table cs)).1 + begins b.spacing (heights b) c.row + tall_in b c ≤ tallest

  cell_on_page : (i : ℕ) (c : Cell) (b : Table) → slice_get cs i ≡ Some c → slice_get ts c.table ≡ Some b → OnPage c.table b → CellOnPage c b
  cell_on_page i c b e there s =
      let able = g.able c.table b there in
      let w = g.within i c b e there in
      let wl = one.widths_length b able in
      let hl = one.heights_length b able in
      let across = ends_within b.spacing (widths b) c.column c.across w.wide (omega (arith, w.columns)) in
      let down = ends_within b.spacing (heights b) c.row c.down w.tall (omega (arith, w.rows, able.rows)) in
      record { right = omega (arith, s.right); bottom = omega (arith, s.bottom) }

  -- then its box is kept as it is
  box_is : (i : ℕ) (c : Cell) (b : Table) → slice_get cs i ≡ Some c → slice_get ts c.table ≡ Some b → OnPage c.table b → c.rect ≡ rect_in b (corner cs (holder c.table cs)) c
  box_is i c b e there s =
      let p = cell_on_page i c b e there s in
      let r = p.right in
      let o = p.bottom in
      kept i c b e there ∙ uncapped _ (omega arith) (omega arith) (omega arith) (omega arith)

  -- the tables up to number fuel
  on_page : (fuel t : ℕ) (b : Table) → t ≤ fuel → slice_get ts t ≡ Some b → OnPage t b
  unfolding corner
  on_page fuel zero b l e = record { right = omega (arith, narrow 0 b e); bottom = omega (arith, low 0 b e) }
  on_page zero (suc t) b l e = absurd (omega arith)
  on_page (suc fuel) (suc t) b l e =
      let h = g.held (suc t) (omega arith) (nth_below ts (suc t) b e) in
      let c : Cell = h.cell in
      let lower = g.higher h.number c (suc t) h.there h.holds_it in
      let w = nth_some ts c.table (g.known h.number c h.there) in
      let d : Table = w.0 in
      let s = on_page fuel c.table d (omega arith) w.1 in
      let r = box_is h.number c d h.there w.1 s in
      let p = cell_on_page h.number c d h.there w.1 s in
      let k = corner_is cs g.once h.number c (suc t) (omega arith) h.there h.holds_it in
      let left = ap (λ (z : ℕ × ℕ). z.0) k ∙ ap (λ (z : Rect). z.left) r in
      let top = ap (λ (z : ℕ × ℕ). z.1) k ∙ ap (λ (z : Rect). z.top) r in
      record {
        right = omega (arith, p.right, cell_width_is ts c d w.1, inner_narrow h.number c (suc t) b h.there h.holds_it e);
        bottom = omega (arith, p.bottom, inner_low h.number c (suc t) d b h.there h.holds_it w.1 e);
      }

  pub boxes_are : (i : ℕ) (c : Cell) (b : Table) → slice_get cs i ≡ Some c → slice_get ts c.table ≡ Some b → c.rect ≡ rect_in b (corner cs (holder c.table cs)) c
  boxes_are i c b e there = box_is i c b e there (on_page c.table c.table b (le_refl _) there)

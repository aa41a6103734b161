-- No table is wider than 2,000, and every content can be set at the width of its cell.
use Rattle.std.proofs.Common.{◌≡◌, ℕ, zero, suc, ◌<◌, ◌≤◌, true, List, Some, refl, ap, ◌∙◌, le_refl, arith}
use Rattle.std.specs.List.{slice_get}
use Rattle.shelf.specs.Shelves.{Meaning, Fitting, widest}
use Rattle.plan.specs.declared.record.Cell.{Cell}
use Rattle.plan.specs.declared.record.Holds.TheVariants.{Content, Inner}
use Rattle.plan.specs.declared.record.Table.{Table}
use Rattle.columns.specs.Columns.{widths_of, least_width}
use Rattle.columns.specs.Tables.{own_columns, widths}
use Rattle.columns.specs.Tracks.{whole}
use Rattle.laid.specs.Views.{seen, least_in, wide_in, cell_width, cell_at}
use Rattle.laid.specs.Layout.{least_asked, offer_of}
use Rattle.laid.specs.Fits.{ColumnsFit, Narrow}
use Rattle.laid.proofs.Listing.{nth_some, nth_below}
use Rattle.laid.proofs.Members.{holder_is}
use Rattle.laid.proofs.Plans.{Good}
use Rattle.laid.proofs.Tracks.{ends_within}
use Rattle.laid.proofs.One as one

pub cell_width_is : (ts : List Table) (c : Cell) (b : Table) → slice_get ts c.table ≡ Some b → cell_width ts c ≡ wide_in b c
unfolding cell_width
cell_width_is ts c b e = ap (seen (λ (d : Table). wide_in d c) 0) e

least_is : (ts : List Table) (u : ℕ) (b : Table) → slice_get ts u ≡ Some b → least_in ts u ≡ least_width b.spacing (own_columns b)
unfolding least_in
least_is ts u b e = ap (seen (λ (d : Table). least_width d.spacing (own_columns d)) 0) e

-- table 0 is offered the sheet's width, an inner table that of its cell
pub offer_first : (A : ℕ) (ts : List Table) (cs : List Cell) → offer_of A cs ts 0 ≡ A
unfolding offer_of
offer_first A ts cs = refl

module _ (A : ℕ) (ts : List Table) (cs : List Cell) (g : Good ts cs) where
  pub offer_inner : (i : ℕ) (c : Cell) (u : ℕ) → slice_get cs i ≡ Some c → c.holds ≡ Inner u → offer_of A cs ts u ≡ cell_width ts c
  unfolding offer_of
  offer_inner i c u e h =
      let up : 0 < u = omega (arith, g.higher i c u e h) in
      ap (λ o. seen (cell_width ts) A (cell_at cs o)) (holder_is cs g.once i c u up e h) ∙ ap (seen (cell_width ts) A) e

  module _ (m : Meaning) (small : A ≤ widest) (narrow : (t : ℕ) → Narrow ts t)
      (widths_are : (t : ℕ) (b : Table) → slice_get ts t ≡ Some b → widths b ≡ widths_of b.spacing (own_columns b) (offer_of A cs ts t))
      (columns_are : (t : ℕ) (b : Table) → slice_get ts t ≡ Some b → ColumnsFit m ts cs t b) where
    -- a cell is no wider than its table
    cell_small : (i : ℕ) (c : Cell) (b : Table) → slice_get cs i ≡ Some c → slice_get ts c.table ≡ Some b → whole b.spacing (widths b) ≤ widest → cell_width ts c ≤ widest
    cell_small i c b e there l =
        let w = g.within i c b e there in
        let n = one.widths_length b (g.able c.table b there) in
        omega (arith, cell_width_is ts c b there, ends_within b.spacing (widths b) c.column c.across w.wide (omega (arith, w.columns)))

    -- and a table no wider than its offer and its least width allow
    table_small : (t : ℕ) (b : Table) → slice_get ts t ≡ Some b → offer_of A cs ts t ≤ widest → whole b.spacing (widths b) ≤ widest
    table_small t b e l =
        omega (arith, narrow t b e, one.not_wider m ts cs t b (g.able t b e) (columns_are t b e) (offer_of A cs ts t) (widths_are t b e))

    -- the tables up to number fuel
    below_small : (fuel t : ℕ) (b : Table) → t ≤ fuel → slice_get ts t ≡ Some b → whole b.spacing (widths b) ≤ widest
    below_small fuel zero b l e = table_small 0 b e (omega (arith, offer_first A ts cs))
    below_small zero (suc t) b l e = absurd (omega arith)
    below_small (suc fuel) (suc t) b l e =
        let h = g.held (suc t) (omega arith) (nth_below ts (suc t) b e) in
        let c : Cell = h.cell in
        let d = nth_some ts c.table (g.known h.number c h.there) in
        let lower = g.higher h.number c (suc t) h.there h.holds_it in
        let s = cell_small h.number c d.0 h.there d.1 (below_small fuel c.table d.0 (omega arith) d.1) in
        table_small (suc t) b e (omega (arith, offer_inner h.number c (suc t) h.there h.holds_it))

    pub widths_small : (t : ℕ) (b : Table) → slice_get ts t ≡ Some b → whole b.spacing (widths b) ≤ widest
    widths_small t b e = below_small t t b (le_refl t) e

    -- a cell is as wide as it asks
    pub asked_width : (i : ℕ) (c : Cell) → slice_get cs i ≡ Some c → least_asked m (least_in ts) c.holds ≤ cell_width ts c
    asked_width i c e =
        let d = nth_some ts c.table (g.known i c e) in
        let b : Table = d.0 in
        let there = d.1 in
        omega (arith, cell_width_is ts c b there, one.wide_enough m ts cs c.table b (g.able c.table b there) (columns_are c.table b there) (offer_of A cs ts c.table) (widths_are c.table b there) i c e (g.within i c b e there) refl)

    pub contents_settable : (i : ℕ) (c : Cell) (k : ℕ) → slice_get cs i ≡ Some c → c.holds ≡ Content k → m.has k ≡ true → Fitting m k (cell_width ts c)
    contents_settable i c k e h shelved =
        let d = nth_some ts c.table (g.known i c e) in
        record {
          there = shelved;
          enough = omega (arith, asked_width i c e, ap (least_asked m (least_in ts)) h);
          small = cell_small i c d.0 e d.1 (widths_small c.table d.0 d.1);
        }

    -- an inner table is offered its least width at least
    pub offered_enough : (i : ℕ) (c : Cell) (u : ℕ) (b : Table) → slice_get cs i ≡ Some c → c.holds ≡ Inner u → slice_get ts u ≡ Some b →
        least_width b.spacing (own_columns b) ≤ offer_of A cs ts u
    offered_enough i c u b e h there =
        omega (arith, asked_width i c e, offer_inner i c u e h, ap (least_asked m (least_in ts)) h, least_is ts u b there, narrow u b there)

    -- so it is no wider than its cell
    pub inner_wide : (i : ℕ) (c : Cell) (u : ℕ) (b : Table) → slice_get cs i ≡ Some c → c.holds ≡ Inner u → slice_get ts u ≡ Some b → whole b.spacing (widths b) ≤ cell_width ts c
    inner_wide i c u b e h there =
        omega (arith, offered_enough i c u b e h there, offer_inner i c u e h, one.not_wider m ts cs u b (g.able u b there) (columns_are u b there) (offer_of A cs ts u) (widths_are u b there))

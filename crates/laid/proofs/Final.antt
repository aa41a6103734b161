-- The passes of the layout put together: what the tables and cells are after each.
use Rattle.std.proofs.Common.{◌≡◌, ℕ, ◌<◌, List, map, length, Some, None, Option, sym, refl, ap, ◌∙◌, subst, arith}
use Rattle.std.specs.List.{slice_get}
use Rattle.shelf.specs.Shelves.{Meaning}
use Rattle.plan.specs.declared.record.Cell.{Cell}
use Rattle.plan.specs.declared.record.Column.{Column}
use Rattle.plan.specs.declared.record.Table.{Table}
use Rattle.plan.specs.Planned.{Able}
use Rattle.columns.specs.Columns.{columns_of, rows_of, widths_of, least_width}
use Rattle.columns.specs.Tables.{own_columns, widths, heights, row_count}
use Rattle.columns.proofs.Bare.{columns_by_sizing}
use Rattle.laid.specs.Views.{seen, holder, least_in, greatest_in}
use Rattle.laid.specs.Layout.{wants, row_wants, measure, offer_of, widen, stack, corner, rect_in, kept_rect, with_rect, put, all_measured, all_widened, all_stacked, all_put, clear_column, clear_table, clear_cell}
use Rattle.laid.specs.Fits.{bare, ColumnsFit, TableFits, Narrow}
use Rattle.laid.specs.Laws.{SameTables, SameCells}
use Rattle.laid.proofs.Listing.{nth_some, nth_below}
use Rattle.laid.proofs.Kept.{able_kept}
use Rattle.laid.proofs.Made.{wants_by, offer_by, measure_sees, widen_sees, stack_sees, put_sees, measure_own, measure_clear, widen_bare, widen_widths, widen_clear, stack_heights, stack_clear}
use Rattle.laid.proofs.Passes.{down_ends, up_ends, length_down, length_up, map_up}
use Rattle.laid.proofs.Plans.{Good}
use Rattle.laid.proofs.Twins.{twin, map_by, SameBare, least_by_bare, widths_by_bare, spacing_is, clears_are, Both, least_two, greatest_two, width_two, wants_twin, row_wants_twin, holder_twin, offer_twin}

module _ (m : Meaning) (A : ℕ) (ts : List Table) (cs : List Cell) (g : Good ts cs) where
  -- the tables after the first, the second and the third pass, and the cells after the last
  abbrev one : List Table
  one = all_measured m ts cs

  abbrev two : List Table
  two = all_widened A one cs

  abbrev three : List Table
  three = all_stacked m two cs

  abbrev ends : List Cell
  ends = all_put three cs

  length_one : length one ≡ length ts
  unfolding all_measured
  length_one = length_down (measure m cs) (length ts) ts

  length_two : length two ≡ length ts
  unfolding all_widened
  length_two = length_up (widen A cs) (length one) 0 one ∙ length_one

  length_three : length three ≡ length ts
  unfolding all_stacked
  length_three = length_down (stack m cs) (length two) two ∙ length_two

  -- ---- what table t, which was b, is after each pass

  module _ (t : ℕ) (b : Table) (e : slice_get ts t ≡ Some b) where
    abbrev first : Table
    first = measure m cs one t b

    abbrev second : Table
    second = widen A cs two t first

    abbrev third : Table
    third = stack m cs three t second

    one_at : slice_get one t ≡ Some first
    unfolding all_measured
    one_at = down_ends (measure m cs) ts (measure_sees ts cs g m) (length ts) ts (λ u l. refl) t b (nth_below ts t b e) e

    two_at : slice_get two t ≡ Some second
    unfolding all_widened
    two_at = up_ends (widen A cs) one (widen_sees ts cs g A one) (length one) 0 one (λ u l. refl) t first (omega arith) (omega (arith, nth_below one t _ one_at)) one_at

    three_at : slice_get three t ≡ Some third
    unfolding all_stacked
    three_at = down_ends (stack m cs) two (stack_sees ts cs g m two) (length two) two (λ u l. refl) t second (nth_below two t _ two_at) two_at

    clear_one : clear_table first ≡ clear_table b
    clear_one = measure_clear cs one t b m

    clear_two : clear_table second ≡ clear_table b
    clear_two = widen_clear cs two t first A ∙ clear_one

    able_two : Able second
    able_two = able_kept second b clear_two (g.able t b e)

    clear_three : clear_table third ≡ clear_table b
    clear_three = stack_clear cs three t second m able_two ∙ clear_two

  -- table t after the passes was some table
  record Came (t : ℕ) : Type 0 where
    was : Table
    there : slice_get ts t ≡ Some was
    at_one : slice_get one t ≡ Some (first t was there)
    at_two : slice_get two t ≡ Some (second t was there)
    at_three : slice_get three t ≡ Some (third t was there)

  came : (t : ℕ) → t < length ts → Came t
  came t l =
      let w = nth_some ts t l in
      record { was = w.0; there = w.1; at_one = one_at t w.0 w.1; at_two = two_at t w.0 w.1; at_three = three_at t w.0 w.1 }

  came_one : (t : ℕ) (z : Table) → slice_get one t ≡ Some z → Came t
  came_one t z e = came t (omega (arith, nth_below one t z e, length_one))

  came_two : (t : ℕ) (z : Table) → slice_get two t ≡ Some z → Came t
  came_two t z e = came t (omega (arith, nth_below two t z e, length_two))

  came_three : (t : ℕ) (z : Table) → slice_get three t ≡ Some z → Came t
  came_three t z e = came t (omega (arith, nth_below three t z e, length_three))

  -- ---- the plan stays

  pub same_one : SameTables one ts
  same_one = map_by clear_table one ts length_one (λ t z b e h.
      let k = one_at t b h in
      let s : z ≡ first t b h = cc in
      ap clear_table s ∙ clear_one t b h)

  pub same_two : SameTables two ts
  same_two = map_by clear_table two ts length_two (λ t z b e h.
      let k = two_at t b h in
      let s : z ≡ second t b h = cc in
      ap clear_table s ∙ clear_two t b h)

  pub same_three : SameTables three ts
  same_three = map_by clear_table three ts length_three (λ t z b e h.
      let k = three_at t b h in
      let s : z ≡ third t b h = cc in
      ap clear_table s ∙ clear_three t b h)

  put_clear : (xs : List Cell) (i : ℕ) (c : Cell) → clear_cell (put three cs xs i c) ≡ clear_cell c
  unfolding put
  put_clear xs i c = go (slice_get three c.table)
    where
      go : (o : Option Table) → clear_cell (seen (λ b. with_rect c (kept_rect (rect_in b (corner xs (holder c.table cs)) c))) c o) ≡ clear_cell c
      go None = refl
      go (Some b) = refl

  pub same_cells : SameCells ends cs
  unfolding all_put
  same_cells = map_up (put three cs) clear_cell put_clear (length cs) 0 cs

  -- ---- the columns stay as the first pass left them, but for their widths

  -- xs are the tables of the first pass, with other widths and heights
  record Later (xs : List Table) : Type 0 where
    same : SameTables xs one
    bares : (t : ℕ) → Both xs one (λ z d. SameBare (own_columns z) (own_columns d)) t

  later_one : Later one
  later_one = record { same = refl; bares = λ t z d e h. let s : z ≡ d = cc in ap (λ (y : Table). map bare (own_columns y)) s }

  bare_two : (t : ℕ) → Both two one (λ z d. SameBare (own_columns z) (own_columns d)) t
  bare_two t z d e h =
      let k = came_one t d h in
      let p = k.at_one in
      let q = k.at_two in
      let x : z ≡ second t k.was k.there = cc in
      let y : first t k.was k.there ≡ d = cc in
      ap (λ (v : Table). map bare (own_columns v)) x ∙ (widen_bare cs two t (first t k.was k.there) A ∙ ap (λ (v : Table). map bare (own_columns v)) y)

  own_three : (t : ℕ) → Both three two (λ z d. own_columns z ≡ own_columns d) t
  unfolding stack
  own_three t z d e h =
      let k = came_two t d h in
      let p = k.at_two in
      let q = k.at_three in
      let x : z ≡ third t k.was k.there = cc in
      let y : second t k.was k.there ≡ d = cc in
      ap own_columns x ∙ ap own_columns y

  later_two : Later two
  later_two = record { same = same_two ∙ sym same_one; bares = bare_two }

  later_three : Later three
  later_three = record {
    same = same_three ∙ sym same_one;
    bares = λ t z d e h.
        let w = twin clear_table three two (same_three ∙ sym same_two) t z e in
        ap (map bare) (own_three t z w.0 e w.1) ∙ bare_two t w.0 d w.1 h;
  }

  columns_by : (xs : List Table) → Later xs → (t : ℕ) (z : Table) → slice_get xs t ≡ Some z → ColumnsFit m xs cs t z
  columns_by xs l t z e =
      let w = twin clear_table xs one l.same t z e in
      let d : Table = w.0 in
      let there = w.1 in
      let k = came_one t d there in
      let b : Table = k.was in
      let p = k.at_one in
      let s : d ≡ first t b k.there = cc in
      let bares = l.bares t z d e there in
      let clear : clear_table b ≡ clear_table z = sym (w.2 ∙ (ap clear_table s ∙ clear_one t b k.there)) in
      let asks : wants m one cs t b ≡ wants m xs cs t z =
      wants_by ts cs g m (least_in one) (least_in xs) (greatest_in one) (greatest_in xs) t b z (ap (λ (v : Table). v.count) clear)
      (λ u _. sym (least_two xs one l.same u (l.bares u))) (λ u _. sym (greatest_two xs one l.same u (l.bares u))) in
      let rule : columns_of b.spacing (map clear_column (own_columns b)) (wants m one cs t b) ≡ columns_of z.spacing (map clear_column (own_columns z)) (wants m xs cs t z) =
      λ i. columns_of (spacing_is b z clear i) (clears_are b z clear i) (asks i) in
      bares
      ∙ (ap (λ (v : Table). map bare (own_columns v)) s
      ∙ (ap (map bare) (measure_own cs one t b m) ∙ (columns_by_sizing b.spacing (own_columns b) (wants m one cs t b) ∙ rule)))

  pub columns_one : (t : ℕ) (z : Table) → slice_get one t ≡ Some z → ColumnsFit m one cs t z
  columns_one = columns_by one later_one

  pub columns_two : (t : ℕ) (z : Table) → slice_get two t ≡ Some z → ColumnsFit m two cs t z
  columns_two = columns_by two later_two

  -- so least widths stay
  narrow_by : (xs : List Table) → Later xs → (t : ℕ) → Narrow one t → Narrow xs t
  narrow_by xs l t h z e =
      let w = twin clear_table xs one l.same t z e in
      let n = h w.0 w.1 in
      let q : least_width z.spacing (own_columns z) ≡ least_width w.0.spacing (own_columns w.0) =
      ap (λ x. least_width x (own_columns z)) (spacing_is z w.0 w.2) ∙ least_by_bare w.0.spacing (own_columns z) (own_columns w.0) (l.bares t z w.0 e w.1) in
      omega arith

  pub narrow_two : (t : ℕ) → Narrow one t → Narrow two t
  narrow_two = narrow_by two later_two

  pub narrow_three : (t : ℕ) → Narrow one t → Narrow three t
  narrow_three = narrow_by three later_three

  -- ---- the widths are by the offers

  pub widths_two : (t : ℕ) (z : Table) → slice_get two t ≡ Some z → widths z ≡ widths_of z.spacing (own_columns z) (offer_of A cs two t)
  unfolding widen
  widths_two t z e =
      let k = came_two t z e in
      let p = k.at_two in
      let f : Table = first t k.was k.there in
      let s : second t k.was k.there ≡ z = cc in
      subst (λ (v : Table). widths v ≡ widths_of v.spacing (own_columns v) (offer_of A cs two t)) s
      (widen_widths cs two t f A ∙ widths_by_bare f.spacing (own_columns f) _ (offer_of A cs two t) (sym (widen_bare cs two t f A)))

  offer_view : (t : ℕ) → offer_of A cs two t ≡ offer_of A cs three t
  unfolding offer_of
  offer_view t =
      offer_by ts cs g A two three t
      (λ c _. sym (width_two three two (same_three ∙ sym same_two) c (λ z d e h. ap (map (λ (v : Column). v.width)) (own_three c.table z d e h)))) (holder t cs) refl

  widths_three : (t : ℕ) (z : Table) → slice_get three t ≡ Some z → widths z ≡ widths_of z.spacing (own_columns z) (offer_of A cs three t)
  widths_three t z e =
      let w = twin clear_table three two (same_three ∙ sym same_two) t z e in
      let d : Table = w.0 in
      let own = own_three t z d e w.1 in
      let rule : widths_of d.spacing (own_columns d) (offer_of A cs two t) ≡ widths_of z.spacing (own_columns z) (offer_of A cs three t) =
      λ i. widths_of (spacing_is d z (sym w.2) i) (sym own i) (offer_view t i) in
      ap (map (λ (v : Column). v.width)) own ∙ (widths_two t d w.1 ∙ rule)

  -- ---- and the heights by the rows

  heights_three : (t : ℕ) (z : Table) → slice_get three t ≡ Some z → heights z ≡ rows_of z.spacing (row_count z) (row_wants m three cs t z)
  unfolding stack
  heights_three t z e =
      let k = came_three t z e in
      let p = k.at_three in
      let s : third t k.was k.there ≡ z = cc in
      subst (λ (v : Table). heights v ≡ rows_of v.spacing (row_count v) (row_wants m three cs t v)) s
      (stack_heights cs three t (second t k.was k.there) m (able_two t k.was k.there))

  pub fits_three : (t : ℕ) (z : Table) → slice_get three t ≡ Some z → TableFits m A three cs t z
  fits_three t z e = record { columns_fit = columns_by three later_three t z e; widths_fit = widths_three t z e; heights_fit = heights_three t z e }

  -- boxes make no difference
  pub fits_ends : (t : ℕ) (z : Table) → slice_get three t ≡ Some z → TableFits m A three ends t z
  fits_ends t z e =
      let f = fits_three t z e in
      record {
        columns_fit = f.columns_fit ∙ ap (columns_of z.spacing (map clear_column (own_columns z))) (sym (wants_twin ends cs same_cells m three t z));
        widths_fit = f.widths_fit ∙ ap (widths_of z.spacing (own_columns z)) (sym (offer_twin ends cs same_cells A three t));
        heights_fit = f.heights_fit ∙ ap (rows_of z.spacing (row_count z)) (sym (row_wants_twin ends cs same_cells m three t z));
      }

  -- ---- each cell has the box that was kept of it

  cell_ends : (i : ℕ) (c : Cell) → slice_get cs i ≡ Some c → slice_get ends i ≡ Some (put three cs ends i c)
  unfolding all_put
  cell_ends i c e = up_ends (put three cs) cs (put_sees ts cs g three) (length cs) 0 cs (λ u l. refl) i c (omega arith) (omega (arith, nth_below cs i c e)) e

  pub box_kept : (i : ℕ) (z : Cell) (b : Table) → slice_get ends i ≡ Some z → slice_get three z.table ≡ Some b → z.rect ≡ kept_rect (rect_in b (corner ends (holder z.table ends)) z)
  unfolding put
  box_kept i z b e h =
      let w = twin clear_cell ends cs same_cells i z e in
      let c : Cell = w.0 in
      let there : slice_get three c.table ≡ Some b = ap (slice_get three) (sym (ap (λ (v : Cell). v.table) w.2)) ∙ h in
      let k = cell_ends i c w.1 in
      let is : z ≡ put three cs ends i c = cc in
      let F : Table → Cell = λ d. with_rect c (kept_rect (rect_in d (corner ends (holder c.table cs)) c)) in
      let now : F b ≡ z = sym (is ∙ ap (seen F c) there) in
      subst (λ (y : Cell). y.rect ≡ kept_rect (rect_in b (corner ends (holder y.table ends)) y)) now
      (ap (λ o. kept_rect (rect_in b (corner ends o) c)) (sym (holder_twin ends cs same_cells c.table)))

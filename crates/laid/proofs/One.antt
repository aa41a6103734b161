-- What holds of a table whose columns fit what its cells ask, and whose widths and heights fit the rules.
use Rattle.std.proofs.Common.{◌≡◌, ℕ, ◌+◌, ◌-◌, ◌*◌, ◌≤◌, max, List, map, length, get_or, take, drop, Some, sym, ap, ◌∙◌, subst, inl, inr, arith}
use mathlib.Core.List.{map-map}
use Rattle.std.specs.List.{slice_get, AllByRecursion}
use Rattle.std.proofs.ByRecursion.{All-map}
use Rattle.std.proofs.lemmas.List.{take-map, drop-map, length-map, length-take-le}
use Rattle.std.proofs.lemmas.Bool.{cases_lt}
use Rattle.share.specs.Share.{total, stretch}
use Rattle.shelf.specs.Shelves.{Meaning}
use Rattle.plan.specs.declared.record.Axis.TheVariants.{Columns, Rows}
use Rattle.plan.specs.declared.record.Cell.{Cell}
use Rattle.plan.specs.declared.record.Column.{Column}
use Rattle.plan.specs.declared.record.Table.{Table}
use Rattle.plan.specs.Planned.{Able, Within}
use Rattle.plan.specs.Steps.{columns_of as column_count}
use Rattle.columns.specs.Columns.{leasts, greatests, spreads, spanned, columns_of, rows_of, widths_of, least_width}
use Rattle.columns.specs.Laws as law
use Rattle.columns.specs.Tables.{own_columns, widths, heights, row_count}
use Rattle.columns.specs.Tracks.{extent, whole}
use Rattle.columns.specs.Wants.{Want}
use Rattle.columns.proofs.Lawful.{offers_are_lawful}
use Rattle.columns.proofs.Offer.{offer_not_exceeded}
use Rattle.columns.proofs.Ordered.{columns_are_ordered}
use Rattle.columns.proofs.Rows.{rows_have_room}
use Rattle.columns.proofs.Served.{minimums_are_met}
use Rattle.laid.specs.Views.{cells_of, least_in, greatest_in, height_in, wide_in, tall_in}
use Rattle.laid.specs.Layout.{least_asked, height_asked, want_of, row_want, wants, row_wants, clear_column}
use Rattle.laid.specs.Fits.{bare, ColumnsFit}
use Rattle.laid.specs.Laws.{FairGrowth, OfferedWell}
use Rattle.laid.proofs.Listing.{all_mapped}
use Rattle.laid.proofs.Members.{all_cells, cell_in}
use Rattle.laid.proofs.Tracks.{stretch_larger}

-- ---- what a table has, by its plan

module _ (b : Table) (able : Able b) where
  columns_length : length (own_columns b) ≡ column_count b
  columns_length = length-take-le (column_count b) b.columns (omega arith)

  pub widths_length : length (widths b) ≡ column_count b
  widths_length = length-map (own_columns b) (λ c. c.width) ∙ columns_length

  pub heights_length : length (heights b) ≡ row_count b
  heights_length = length-take-le (row_count b) b.heights (omega arith)

-- ---- the columns

leasts_spanned : (x : Want) (cs : List Column) → leasts (spanned x cs) ≡ take x.span (drop x.first (leasts cs))
leasts_spanned x cs = sym (ap (take x.span) (drop-map (λ c. c.least) x.first cs) ∙ take-map (λ c. c.least) x.span (drop x.first cs))

module _ (m : Meaning) (ts : List Table) (cs : List Cell) (t : ℕ) (b : Table) (able : Able b) (columns_are : ColumnsFit m ts cs t b) where
  ruled : List Column
  ruled = columns_of b.spacing (map clear_column (own_columns b)) (wants m ts cs t b)

  leasts_ruled : leasts (own_columns b) ≡ leasts ruled
  unfolding ruled
  leasts_ruled = sym (map-map (λ (c : Column). c.least) bare (own_columns b)) ∙ ap leasts columns_are

  pub ordered : AllByRecursion law.Ordered (own_columns b)
  ordered =
      let each : AllByRecursion (λ (x : Want). x.minimum ≤ x.maximum) (wants m ts cs t b) =
      All-map (λ (x : Want). x.minimum ≤ x.maximum) (want_of m (least_in ts) (greatest_in ts)) _ (all_cells _ Columns t b cs (λ i c e l. omega arith)) in
      all_mapped law.Ordered bare (own_columns b) (subst (AllByRecursion law.Ordered) (sym columns_are) (columns_are_ordered 31 b.spacing _ _ each))

  -- the leasts of a cell's columns, with the spacings between them, come to what it asks
  least_enough : (i : ℕ) (c : Cell) → slice_get cs i ≡ Some c → Within c b → c.table ≡ t →
      least_asked m (least_in ts) c.holds ≤ extent b.spacing (leasts (own_columns b)) c.column c.across
  unfolding ruled extent
  least_enough i c e w h =
      let want : Cell → Want = want_of m (least_in ts) (greatest_in ts) in
      let xs : List Cell = cells_of Columns t b cs in
      let cols : List Column = map clear_column (own_columns b) in
      let n : length cols ≡ column_count b = length-map (own_columns b) clear_column ∙ columns_length b able in
      let fits : AllByRecursion (law.Fits 31 (length cols)) (map want xs) =
      All-map (law.Fits 31 (length cols)) want xs (all_cells _ Columns t b cs (λ k d p l. (l.some, l.few, omega (arith, l.ends)))) in
      let all = all_mapped _ want xs (minimums_are_met 31 b.spacing cols (map want xs) fits) in
      let s : law.Served b.spacing ruled (want c) = cell_in _ Columns t b cs all able i c e w h in
      omega (arith, ap total (leasts_spanned (want c) ruled), ap (stretch c.column c.across) leasts_ruled)

  -- ---- with its widths by an offer

  module _ (O : ℕ) (widths_are : widths b ≡ widths_of b.spacing (own_columns b) O) where
    whole_is : whole b.spacing (widths b) ≡ total (widths_of b.spacing (own_columns b) O) + b.spacing * (length (own_columns b) + 1)
    unfolding whole
    whole_is = omega (arith, ap total widths_are, ap (λ k. b.spacing * (k + 1)) (length-map (own_columns b) (λ (c : Column). c.width)))

    pub offered_well : OfferedWell O b
    offered_well =
        let l = offers_are_lawful b.spacing (own_columns b) O in
        record {
          filled = λ lo hi. whole_is ∙ l.filled ordered lo hi;
          offered_more = λ h. widths_are ∙ l.ample ordered h;
          offered_less = λ h. widths_are ∙ l.short h;
          between = λ j. subst (λ ws. (get_or (leasts (own_columns b)) j 0 ≤ get_or ws j 0) × (get_or ws j 0 ≤ get_or (greatests (own_columns b)) j 0)) (sym widths_are) (l.between ordered j);
          fair = λ lo hi pos. subst (λ ws. FairGrowth (O - least_width b.spacing (own_columns b)) (total (spreads (own_columns b))) ws (own_columns b)) (sym widths_are) (l.fair ordered lo hi pos);
        }

    -- it is no wider than its offer, or than its least width if that is more
    pub not_wider : whole b.spacing (widths b) ≤ max O (least_width b.spacing (own_columns b))
    not_wider =
        elim (cases_lt O (least_width b.spacing (own_columns b))) [
          | inl l ↦ omega (arith, whole_is, ap total ((offers_are_lawful b.spacing (own_columns b) O).short (omega arith)))
          | inr l ↦ omega (arith, whole_is, offer_not_exceeded b.spacing (own_columns b) O ordered l)
        ]

    -- a cell is at least as wide as it asks
    pub wide_enough : (i : ℕ) (c : Cell) → slice_get cs i ≡ Some c → Within c b → c.table ≡ t → least_asked m (least_in ts) c.holds ≤ wide_in b c
    unfolding extent
    wide_enough i c e w h =
        omega (arith, least_enough i c e w h, stretch_larger c.column c.across (leasts (own_columns b)) (widths b) (λ j. (offered_well.between j).0))

-- ---- the rows

-- a cell is at least as tall as it asks
pub tall_enough : (m : Meaning) (ts : List Table) (cs : List Cell) (t : ℕ) (b : Table) → Able b → heights b ≡ rows_of b.spacing (row_count b) (row_wants m ts cs t b) →
    (i : ℕ) (c : Cell) → slice_get cs i ≡ Some c → Within c b → c.table ≡ t → height_asked m (height_in ts) (wide_in b c) c.holds ≤ tall_in b c
unfolding extent
tall_enough m ts cs t b able heights_are i c e w h =
    let want : Cell → Want = row_want m (height_in ts) b in
    let xs : List Cell = cells_of Rows t b cs in
    let fits : AllByRecursion (law.Fits 63 (row_count b)) (map want xs) =
    All-map (law.Fits 63 (row_count b)) want xs (all_cells _ Rows t b cs (λ k d p l. (l.some, l.few, l.ends))) in
    let all = all_mapped _ want xs (rows_have_room b.spacing (row_count b) (map want xs) fits) in
    omega (arith, cell_in _ Rows t b cs all able i c e w h, ap (stretch c.row c.down) heights_are)

-- What each step of the layout sees, and what it leaves of a table.
use Rattle.std.proofs.Common.{◌≡◌, ℕ, zero, suc, ◌<◌, min, Bool, true, false, cond, eqb, List, [], ◌∷◌, ◌++◌, map, length, take, drop, replicate, Some, None, filter, Option, sym, refl, ap, ◌∙◌, ap₂, arith}
use mathlib.Core.List.{map-map, map-append}
use Rattle.std.specs.List.{slice_get, AllByRecursion}
use Rattle.std.proofs.lemmas.List.{length-map, length-replicate, take-append-drop}
use Rattle.shelf.specs.Shelves.{Meaning, largest}
use Rattle.plan.specs.declared.record.Axis.TheVariants.{Columns, Rows}
use Rattle.plan.specs.declared.record.Cell.{Cell}
use Rattle.plan.specs.declared.record.Column.{Column}
use Rattle.plan.specs.declared.record.Holds.{Holds}
use Rattle.plan.specs.declared.record.Holds.TheVariants.{Content, Inner}
use Rattle.plan.specs.declared.record.Sizing.{Sizing}
use Rattle.plan.specs.declared.record.Table.{Table}
use Rattle.plan.specs.Blank.{blank_column}
use Rattle.plan.specs.Planned.{Able}
use Rattle.plan.specs.Steps.{columns_of as column_count}
use Rattle.columns.specs.Columns.{over, pass, columns_of, rows_of, widths_of, least_width, greatest_width}
use Rattle.columns.specs.Tables.{own_columns, widths, heights, row_count, lies_in, with_columns, measured, with_widths, given_of, offered_to, stacked}
use Rattle.columns.specs.Tracks.{whole}
use Rattle.columns.specs.Wants.{Want}
use Rattle.columns.proofs.Offer.{length_widths}
use Rattle.columns.proofs.Rows.{rows_are_columns}
use Rattle.columns.proofs.Served.{columns_stay, sizings_stay}
use Rattle.laid.specs.Views.{seen, least_in, greatest_in, height_in, wide_in, cell_width, cells_of, holder, holder_from, cell_at}
use Rattle.laid.specs.Layout.{least_asked, most_asked, height_asked, want_of, wants, row_want, row_wants, measure, offer_of, widen, stack, corner, rect_in, kept_rect, with_rect, put, clear_column, clear_table}
use Rattle.laid.specs.Fits.{bare}
use Rattle.laid.proofs.Members.{all_cells, found}
use Rattle.laid.proofs.One.{heights_length}
use Rattle.laid.proofs.Passes.{SeesAfter, SeesBefore}
use Rattle.laid.proofs.Plans.{Good}
use Rattle.laid.proofs.Twins.{by_bare, as_many, map_by}

-- ---- what a cell asks hangs on the table that it holds

module _ (m : Meaning) (l k : ℕ → ℕ) where
  least_same : (h : Holds) → ((u : ℕ) → h ≡ Inner u → l u ≡ k u) → least_asked m l h ≡ least_asked m k h
  least_same (Content c) e = refl
  least_same (Inner u) e = ap (λ n. min n largest) (e u refl)

  most_same : (h : Holds) → ((u : ℕ) → h ≡ Inner u → l u ≡ k u) → most_asked m l h ≡ most_asked m k h
  most_same (Content c) e = refl
  most_same (Inner u) e = e u refl

  height_same : (w : ℕ) (h : Holds) → ((u : ℕ) → h ≡ Inner u → l u ≡ k u) → height_asked m l w h ≡ height_asked m k w h
  height_same w (Content c) e = refl
  height_same w (Inner u) e = ap (λ n. min n largest) (e u refl)

map_same : {X Y : Type 0} (f g : X → Y) (xs : List X) → AllByRecursion (λ x. f x ≡ g x) xs → map f xs ≡ map g xs
map_same f g [] a = refl
map_same f g (x ∷ xs) a = ap₂ (λ y ys. y ∷ ys) a.0 (map_same f g xs a.1)

-- the cell that is found to hold table t
pub held_by : (t : ℕ) (cs : List Cell) (k : ℕ) → holder t cs ≡ Some k → (c : Cell) × (slice_get cs k ≡ Some c) × (c.holds ≡ Inner t)
held_by t cs k e =
    let r = found t 0 cs k (go (eqb t 0) (holder_from t 0 cs) e) in
    let q : k ≡ r.at = omega (arith, r.number) in
    (r.cell, ap (slice_get cs) q ∙ r.there, r.holds_it)
  where
    go : (b : Bool) (o : Option ℕ) → cond b None o ≡ Some k → o ≡ Some k
    go true o h = let z : ◌≡◌ {A = ℕ} 0 1 = cc in absurd (omega arith)
    go false o h = h

module _ (ts : List Table) (cs : List Cell) (g : Good ts cs) where
  -- ---- each pass sees only what it may

  -- wants hang on what is seen of higher tables
  pub wants_by : (m : Meaning) (l k p q : ℕ → ℕ) (t : ℕ) (b d : Table) → b.count ≡ d.count → ((u : ℕ) → t < u → l u ≡ k u) → ((u : ℕ) → t < u → p u ≡ q u) →
      map (want_of m l p) (cells_of Columns t b cs) ≡ map (want_of m k q) (cells_of Columns t d cs)
  wants_by m l k p q t b d n h j =
      map_same (want_of m l p) (want_of m k q) (cells_of Columns t b cs)
      (all_cells _ Columns t b cs (λ i c e s.
      let x : least_asked m l c.holds ≡ least_asked m k c.holds =
      least_same m l k c.holds (λ u z. h u (omega (arith, s.table_is, g.higher i c u e z))) in
      let y : most_asked m p c.holds ≡ most_asked m q c.holds =
      most_same m p q c.holds (λ u z. j u (omega (arith, s.table_is, g.higher i c u e z))) in
      cc))
      ∙ ap (λ z. map (want_of m k q) (filter (lies_in Columns t (min z 32)) cs)) n

  pub measure_sees : (m : Meaning) → SeesAfter (measure m cs) ts
  unfolding measure least_in greatest_in
  measure_sees m xs ys t b e h =
      ap (measured b)
      (wants_by m (least_in xs) (least_in ys) (greatest_in xs) (greatest_in ys) t b b refl
      (λ u l. ap (seen (λ (d : Table). least_width d.spacing (own_columns d)) 0) (h u l))
      (λ u l. ap (seen (λ (d : Table). greatest_width d.spacing (own_columns d)) 0) (h u l)))

  -- an offer hangs on the widths of a lower table
  pub offer_by : (A : ℕ) (xs ys : List Table) (t : ℕ) → ((c : Cell) → c.table < t → cell_width xs c ≡ cell_width ys c) → (o : Option ℕ) → holder t cs ≡ o →
      seen (cell_width xs) A (cell_at cs o) ≡ seen (cell_width ys) A (cell_at cs o)
  offer_by A xs ys t h None e = refl
  offer_by A xs ys t h (Some k) e =
      let r = held_by t cs k e in
      ap (seen (cell_width xs) A) r.1 ∙ (h r.0 (g.higher k r.0 t r.1 r.2) ∙ sym (ap (seen (cell_width ys) A) r.1))

  pub widen_sees : (A : ℕ) (start : List Table) → SeesBefore (widen A cs) start
  unfolding widen offer_of cell_width
  widen_sees A start xs ys t b e h =
      ap (offered_to b) (offer_by A xs ys t (λ c l. ap (seen (λ (d : Table). wide_in d c) 0) (h c.table l)) (holder t cs) refl)

  pub row_wants_by : (m : Meaning) (l k : ℕ → ℕ) (t : ℕ) (b d : Table) → b.reached ≡ d.reached → ((u : ℕ) → t < u → l u ≡ k u) → ((c : Cell) → wide_in b c ≡ wide_in d c) →
      map (row_want m l b) (cells_of Rows t b cs) ≡ map (row_want m k d) (cells_of Rows t d cs)
  row_wants_by m l k t b d n h w =
      map_same (row_want m l b) (row_want m k d) (cells_of Rows t b cs)
      (all_cells _ Rows t b cs (λ i c e s.
      let a : height_asked m l (wide_in b c) c.holds ≡ height_asked m k (wide_in d c) c.holds =
      height_same m l k (wide_in b c) c.holds (λ u z. h u (omega (arith, s.table_is, g.higher i c u e z))) ∙ ap (λ x. height_asked m k x c.holds) (w c) in
      cc))
      ∙ ap (λ z. map (row_want m k d) (filter (lies_in Rows t (min z 64)) cs)) n

  pub stack_sees : (m : Meaning) (start : List Table) → SeesAfter (stack m cs) start
  unfolding stack height_in
  stack_sees m start xs ys t b e h =
      ap (stacked b)
      (row_wants_by m (height_in xs) (height_in ys) t b b refl (λ u l. ap (seen (λ (d : Table). whole d.spacing (heights d)) 0) (h u l)) (λ c. refl))

  corner_same : (xs ys : List Cell) (i : ℕ) (c : Cell) → slice_get cs i ≡ Some c → ((u : ℕ) → u < i → slice_get xs u ≡ slice_get ys u) → (o : Option ℕ) → holder c.table cs ≡ o →
      corner xs o ≡ corner ys o
  unfolding corner
  corner_same xs ys i c e h None q = refl
  corner_same xs ys i c e h (Some k) q =
      let r = held_by c.table cs k q in
      ap (seen (λ (d : Cell). (d.rect.left, d.rect.top)) (0, 0)) (h k (g.before k i r.0 c r.1 e r.2))

  pub put_sees : (final : List Table) → SeesBefore (put final cs) cs
  unfolding put
  put_sees final xs ys i c e h =
      ap (λ p. seen (λ b. with_rect c (kept_rect (rect_in b p c))) c (slice_get final c.table)) (corner_same xs ys i c e h (holder c.table cs) refl)

-- ---- what is done to the first members

front : {X : Type 0} (n : ℕ) (p xs : List X) → length p ≡ length (take n xs) → take n (p ++ drop n xs) ≡ p
front zero [] xs e = refl
front zero (y ∷ p) xs e = absurd (omega arith)
front (suc n) [] [] e = refl
front (suc n) (y ∷ p) [] e = absurd (omega arith)
front (suc n) [] (x ∷ xs) e = absurd (omega arith)
front (suc n) (y ∷ p) (x ∷ xs) e = ap (λ zs. y ∷ zs) (front n p xs (omega arith))

take_over : {X : Type 0} (f : List X → List X) (n : ℕ) (xs : List X) → length (f (take n xs)) ≡ length (take n xs) → take n (over f 0 n xs) ≡ f (take n xs)
unfolding over
take_over f n xs e = front n (f (take n xs)) xs e

map_over : {X Y : Type 0} (h : X → Y) (f : List X → List X) (n : ℕ) (xs : List X) → map h (f (take n xs)) ≡ map h (take n xs) → map h (over f 0 n xs) ≡ map h xs
unfolding over
map_over h f n xs e =
    map-append h (f (take n xs)) (drop n xs)
    ∙ (ap (λ zs. zs ++ map h (drop n xs)) e ∙ (sym (map-append h (take n xs) (drop n xs)) ∙ ap (map h) (take-append-drop n xs)))

-- ---- columns in the place of a table's own

clear_with : (f : List Column → List Column) (b : Table) → map clear_column (f (own_columns b)) ≡ map clear_column (own_columns b) → clear_table (with_columns f b) ≡ clear_table b
clear_with f b e =
    ap (λ cols. record { columns = cols; count = b.count; spacing = b.spacing; begun = b.begun; reached = b.reached; heights = map (λ _. 0) b.heights; taken = b.taken })
    (map_over clear_column f (column_count b) b.columns e)

bare_widened : (ws : List ℕ) (cs : List Column) → map bare (with_widths ws cs) ≡ map bare cs
bare_widened [] cs = refl
bare_widened (w ∷ ws) [] = refl
bare_widened (w ∷ ws) (c ∷ cs) = ap (λ xs. bare c ∷ xs) (bare_widened ws cs)

widths_widened : (ws : List ℕ) (cs : List Column) → length ws ≡ length cs → map (λ (c : Column). c.width) (with_widths ws cs) ≡ ws
widths_widened [] [] e = refl
widths_widened [] (c ∷ cs) e = absurd (omega arith)
widths_widened (w ∷ ws) [] e = absurd (omega arith)
widths_widened (w ∷ ws) (c ∷ cs) e = ap (λ xs. w ∷ xs) (widths_widened ws cs (omega arith))

clears_stay : (q : ℕ) (cols : List Column) (xs : List Want) → map clear_column (columns_of q cols xs) ≡ map clear_column cols
clears_stay q cols xs =
    let f : Sizing → Column = λ s. record { sizing = s; least = 0; greatest = 0; width = 0 } in
    sym (map-map f (λ (c : Column). c.sizing) (columns_of q cols xs)) ∙ (ap (map f) (sizings_stay 31 q cols xs) ∙ map-map f (λ (c : Column). c.sizing) cols)

rows_stay : (q n : ℕ) (xs : List Want) → length (rows_of q n xs) ≡ n
rows_stay q n xs =
    ap length (sym (rows_are_columns q n xs))
    ∙ (length-map (pass 63 q (replicate n blank_column) xs) (λ c. c.least) ∙ (columns_stay 63 q (replicate n blank_column) xs ∙ length-replicate n blank_column))

-- ---- what each step makes of a table

module _ (cs : List Cell) (xs : List Table) (t : ℕ) (b : Table) where
  pub measure_own : (m : Meaning) → own_columns (measure m cs xs t b) ≡ columns_of b.spacing (own_columns b) (wants m xs cs t b)
  unfolding measure
  measure_own m = take_over (λ cols. columns_of b.spacing cols (wants m xs cs t b)) (column_count b) b.columns (columns_stay 31 b.spacing (own_columns b) (wants m xs cs t b))

  pub measure_clear : (m : Meaning) → clear_table (measure m cs xs t b) ≡ clear_table b
  unfolding measure
  measure_clear m = clear_with (λ cols. columns_of b.spacing cols (wants m xs cs t b)) b (clears_stay b.spacing (own_columns b) (wants m xs cs t b))

  module _ (A : ℕ) where
    abbrev given : List ℕ
    given = widths_of b.spacing (own_columns b) (offer_of A cs xs t)

    widen_own : own_columns (widen A cs xs t b) ≡ with_widths given (own_columns b)
    unfolding widen
    widen_own = take_over (given_of b.spacing (offer_of A cs xs t)) (column_count b) b.columns (as_many bare _ _ (bare_widened given (own_columns b)))

    pub widen_bare : map bare (own_columns (widen A cs xs t b)) ≡ map bare (own_columns b)
    widen_bare = ap (map bare) widen_own ∙ bare_widened given (own_columns b)

    pub widen_widths : widths (widen A cs xs t b) ≡ widths_of b.spacing (own_columns b) (offer_of A cs xs t)
    widen_widths = ap (map (λ (c : Column). c.width)) widen_own ∙ widths_widened given (own_columns b) (length_widths b.spacing (own_columns b) (offer_of A cs xs t))

    pub widen_clear : clear_table (widen A cs xs t b) ≡ clear_table b
    unfolding widen
    widen_clear = clear_with (given_of b.spacing (offer_of A cs xs t)) b (by_bare clear_column _ _ (bare_widened given (own_columns b)))

  module _ (m : Meaning) (a : Able b) where
    rows_fit : length (rows_of b.spacing (row_count b) (row_wants m xs cs t b)) ≡ length (heights b)
    rows_fit = rows_stay b.spacing (row_count b) (row_wants m xs cs t b) ∙ sym (heights_length b a)

    pub stack_heights : heights (stack m cs xs t b) ≡ rows_of b.spacing (row_count b) (row_wants m xs cs t b)
    unfolding stack
    stack_heights = take_over (λ _. rows_of b.spacing (row_count b) (row_wants m xs cs t b)) (row_count b) b.heights rows_fit

    pub stack_clear : clear_table (stack m cs xs t b) ≡ clear_table b
    unfolding stack
    stack_clear =
        ap (λ hs. record { columns = map clear_column b.columns; count = b.count; spacing = b.spacing; begun = b.begun; reached = b.reached; heights = hs; taken = b.taken })
        (map_over (λ _. 0) (λ _. rows_of b.spacing (row_count b) (row_wants m xs cs t b)) (row_count b) b.heights (map_by {Y = ℕ} (λ _. 0) _ (heights b) rows_fit (λ i x y e h. refl)))

-- Lists whose members differ in what some f does not see: sheets that differ in their measures alone.
use Rattle.std.proofs.Common.{◌≡◌, ℕ, zero, suc, ◌+◌, ◌-◌, ◌*◌, Bool, true, false, cond, eqb, List, [], ◌∷◌, map, length, take, Some, None, Option, sym, refl, ap, ◌∙◌, ap₂, inl, inr, arith}
use mathlib.Core.List.{map-map}
use Rattle.std.specs.List.{slice_get}
use Rattle.std.proofs.lemmas.List.{length-map, take-map}
use Rattle.std.proofs.lemmas.Option.{slice_get_past}
use Rattle.std.proofs.lemmas.Bool.{cases_lt}
use Rattle.share.specs.Share.{total}
use Rattle.shelf.specs.Shelves.{Meaning}
use Rattle.plan.specs.declared.record.Axis.{Axis}
use Rattle.plan.specs.declared.record.Axis.TheVariants.{Columns, Rows}
use Rattle.plan.specs.declared.record.Cell.{Cell}
use Rattle.plan.specs.declared.record.Column.{Column}
use Rattle.plan.specs.declared.record.Table.{Table}
use Rattle.plan.specs.Steps.{columns_of as column_count}
use Rattle.columns.specs.Columns.{widths_of, least_width, greatest_width}
use Rattle.columns.specs.Tables.{own_columns, widths, heights, track_count, lies_in}
use Rattle.columns.specs.Tracks.{extent, whole}
use Rattle.columns.proofs.Offer.{widths_by_bounds}
use Rattle.laid.specs.Views.{seen, least_in, greatest_in, height_in, wide_in, cell_width, cells_of, holds_table, holder, holder_from, cell_at}
use Rattle.laid.specs.Layout.{want_of, wants, row_want, row_wants, offer_of, clear_column, clear_table, clear_cell}
use Rattle.laid.specs.Fits.{bare}
use Rattle.laid.specs.Laws.{SameTables, SameCells}
use Rattle.laid.proofs.Listing.{nth_some}

module _ {X Y : Type 0} (f : X → Y) where
  nth_map : (xs : List X) (i : ℕ) (x : X) → slice_get xs i ≡ Some x → slice_get (map f xs) i ≡ Some (f x)
  nth_map [] i x e = let z : ◌≡◌ {A = ℕ} 0 1 = cc in absurd (omega arith)
  nth_map (y ∷ xs) zero x e = let q : y ≡ x = cc in ap (λ z. Some (f z)) q
  nth_map (y ∷ xs) (suc i) x e = nth_map xs i x e

  pub as_many : (xs ys : List X) → map f xs ≡ map f ys → length xs ≡ length ys
  as_many xs ys p = sym (length-map xs f) ∙ (ap length p ∙ length-map ys f)

  -- the member of the same number, and what f sees of both
  pub twin : (xs ys : List X) → map f xs ≡ map f ys → (i : ℕ) (x : X) → slice_get xs i ≡ Some x → (y : X) × (slice_get ys i ≡ Some y) × (f x ≡ f y)
  twin [] ys p i x e = let z : ◌≡◌ {A = ℕ} 0 1 = cc in absurd (omega arith)
  twin (a ∷ xs) [] p i x e = let z : ◌≡◌ {A = ℕ} 0 1 = cc in absurd (omega arith)
  twin (a ∷ xs) (b ∷ ys) p zero x e = let s : a ≡ x = cc in let q : f a ≡ f b = cc in (b, refl, ap f (sym s) ∙ q)
  twin (a ∷ xs) (b ∷ ys) p (suc i) x e = let q : map f xs ≡ map f ys = cc in twin xs ys q i x e

  pub twins : (xs ys : List X) → map f xs ≡ map f ys → (i : ℕ) (x y : X) → slice_get xs i ≡ Some x → slice_get ys i ≡ Some y → f x ≡ f y
  twins xs ys p i x y e h = let a = nth_map xs i x e in let b = nth_map ys i y h in let q = ap (λ zs. slice_get zs i) p in cc

  pub map_by : (xs ys : List X) → length xs ≡ length ys → ((i : ℕ) (x y : X) → slice_get xs i ≡ Some x → slice_get ys i ≡ Some y → f x ≡ f y) → map f xs ≡ map f ys
  map_by [] [] l h = refl
  map_by [] (y ∷ ys) l h = absurd (omega arith)
  map_by (x ∷ xs) [] l h = absurd (omega arith)
  map_by (x ∷ xs) (y ∷ ys) l h = ap₂ (λ a more. a ∷ more) (h 0 x y refl refl) (map_by xs ys (omega arith) (λ i. h (suc i)))

-- ---- columns that differ in their widths alone

abbrev pub SameBare : List Column → List Column → Type 0
SameBare cs ds = map bare cs ≡ map bare ds

-- what f sees of a column without its width
pub by_bare : {X : Type 0} (f : Column → X) (cs ds : List Column) → SameBare cs ds → map (λ c. f (bare c)) cs ≡ map (λ c. f (bare c)) ds
by_bare f cs ds e = sym (map-map f bare cs) ∙ (ap (map f) e ∙ map-map f bare ds)

pub least_by_bare : (q : ℕ) (cs ds : List Column) → SameBare cs ds → least_width q cs ≡ least_width q ds
least_by_bare q cs ds e = ap₂ (λ xs k. total xs + q * (k + 1)) (by_bare (λ c. c.least) cs ds e) (as_many bare cs ds e)

greatest_by_bare : (q : ℕ) (cs ds : List Column) → SameBare cs ds → greatest_width q cs ≡ greatest_width q ds
greatest_by_bare q cs ds e = ap₂ (λ xs k. total xs + q * (k + 1)) (by_bare (λ c. c.greatest) cs ds e) (as_many bare cs ds e)

pub widths_by_bare : (q : ℕ) (cs ds : List Column) (A : ℕ) → SameBare cs ds → widths_of q cs A ≡ widths_of q ds A
widths_by_bare q cs ds A e =
    widths_by_bounds q cs ds A (by_bare (λ c. c.least) cs ds e) (by_bare (λ c. c.greatest) cs ds e) (by_bare (λ c. c.greatest - c.least) cs ds e) (as_many bare cs ds e)

-- ---- tables that differ in their measures alone

pub spacing_is : (b d : Table) → clear_table b ≡ clear_table d → b.spacing ≡ d.spacing
spacing_is b d s = ap (λ (z : Table). z.spacing) s

-- their own columns are sized alike
pub clears_are : (b d : Table) → clear_table b ≡ clear_table d → map clear_column (own_columns b) ≡ map clear_column (own_columns d)
clears_are b d s =
    let e : take (column_count b) (map clear_column b.columns) ≡ take (column_count d) (map clear_column d.columns) = λ i. take (column_count (s i)) (s i).columns in
    sym (take-map clear_column (column_count b) b.columns) ∙ (e ∙ take-map clear_column (column_count d) d.columns)

pub wide_by : (b d : Table) → clear_table b ≡ clear_table d → widths b ≡ widths d → (c : Cell) → wide_in b c ≡ wide_in d c
wide_by b d s w c = ap₂ (λ x y. extent x y c.column c.across) (spacing_is b d s) w

-- R holds of table t in both
abbrev pub Both : List Table → List Table → (Table → Table → Type 0) → ℕ → Type 0
Both ts us R t = (b d : Table) → slice_get ts t ≡ Some b → slice_get us t ≡ Some d → R b d

module _ (ts us : List Table) (st : SameTables ts us) where
  seen_two : (v : Table → ℕ) (t : ℕ) → Both ts us (λ b d. v b ≡ v d) t → seen v 0 (slice_get ts t) ≡ seen v 0 (slice_get us t)
  seen_two v t h =
      let n = as_many clear_table ts us st in
      elim (cases_lt t (length ts)) [
        | inl l ↦
            let x = nth_some ts t l in
            let y = nth_some us t (omega arith) in
            ap (seen v 0) x.1 ∙ (h x.0 y.0 x.1 y.1 ∙ sym (ap (seen v 0) y.1))
        | inr l ↦ ap (seen v 0) (slice_get_past ts t l ∙ sym (slice_get_past us t (omega arith)))
      ]

  spacing_two : (t : ℕ) → Both ts us (λ b d. b.spacing ≡ d.spacing) t
  spacing_two t b d e h = spacing_is b d (twins clear_table ts us st t b d e h)

  pub least_two : (t : ℕ) → Both ts us (λ b d. SameBare (own_columns b) (own_columns d)) t → least_in ts t ≡ least_in us t
  unfolding least_in
  least_two t h =
      seen_two (λ b. least_width b.spacing (own_columns b)) t (λ b d e q.
      ap (λ z. least_width z (own_columns b)) (spacing_two t b d e q) ∙ least_by_bare d.spacing (own_columns b) (own_columns d) (h b d e q))

  pub greatest_two : (t : ℕ) → Both ts us (λ b d. SameBare (own_columns b) (own_columns d)) t → greatest_in ts t ≡ greatest_in us t
  unfolding greatest_in
  greatest_two t h =
      seen_two (λ b. greatest_width b.spacing (own_columns b)) t (λ b d e q.
      ap (λ z. greatest_width z (own_columns b)) (spacing_two t b d e q) ∙ greatest_by_bare d.spacing (own_columns b) (own_columns d) (h b d e q))

  pub height_two : (t : ℕ) → Both ts us (λ b d. heights b ≡ heights d) t → height_in ts t ≡ height_in us t
  unfolding height_in
  height_two t h = seen_two (λ b. whole b.spacing (heights b)) t (λ b d e q. ap₂ whole (spacing_two t b d e q) (h b d e q))

  pub width_two : (c : Cell) → Both ts us (λ b d. widths b ≡ widths d) c.table → cell_width ts c ≡ cell_width us c
  unfolding cell_width
  width_two c h = seen_two (λ b. wide_in b c) c.table (λ b d e q. wide_by b d (twins clear_table ts us st c.table b d e q) (h b d e q) c)

-- ---- cells that differ in their boxes alone

module _ {Y : Type 0} (f : Cell → Y) (blind : (c : Cell) → f (clear_cell c) ≡ f c) where
  cond_clear : (b : Bool) (c : Cell) (xs ys : List Cell) → map f xs ≡ map f ys → map f (cond b (clear_cell c ∷ xs) xs) ≡ map f (cond b (c ∷ ys) ys)
  cond_clear true c xs ys e = ap₂ (λ z zs. z ∷ zs) (blind c) e
  cond_clear false c xs ys e = e

  cells_clear : (x : Axis) (t : ℕ) (b : Table) (cs : List Cell) → map f (cells_of x t b (map clear_cell cs)) ≡ map f (cells_of x t b cs)
  cells_clear x t b [] = refl
  cells_clear Columns t b (c ∷ cs) = cond_clear (lies_in Columns t (track_count Columns b) c) c _ _ (cells_clear Columns t b cs)
  cells_clear Rows t b (c ∷ cs) = cond_clear (lies_in Rows t (track_count Rows b) c) c _ _ (cells_clear Rows t b cs)

  cells_two : (cs ds : List Cell) → SameCells cs ds → (x : Axis) (t : ℕ) (b : Table) → map f (cells_of x t b cs) ≡ map f (cells_of x t b ds)
  cells_two cs ds p x t b = sym (cells_clear x t b cs) ∙ (ap (λ zs. map f (cells_of x t b zs)) p ∙ cells_clear x t b ds)

  module _ (d : Y) where
    seen_clear : (cs : List Cell) (k : ℕ) → seen f d (slice_get (map clear_cell cs) k) ≡ seen f d (slice_get cs k)
    seen_clear [] k = refl
    seen_clear (c ∷ cs) zero = blind c
    seen_clear (c ∷ cs) (suc k) = seen_clear cs k

    at_clear : (cs : List Cell) (o : Option ℕ) → seen f d (cell_at (map clear_cell cs) o) ≡ seen f d (cell_at cs o)
    at_clear cs None = refl
    at_clear cs (Some k) = seen_clear cs k

holder_clear : (t i : ℕ) (cs : List Cell) → holder_from t i (map clear_cell cs) ≡ holder_from t i cs
unfolding holder_from
holder_clear t i [] = refl
holder_clear t i (c ∷ cs) = ap (λ o. cond (holds_table t c.holds) (Some i) o) (holder_clear t (suc i) cs)

module _ (cs ds : List Cell) (p : SameCells cs ds) where
  pub wants_twin : (m : Meaning) (ts : List Table) (t : ℕ) (b : Table) → wants m ts cs t b ≡ wants m ts ds t b
  wants_twin m ts t b = cells_two (want_of m (least_in ts) (greatest_in ts)) (λ c. refl) cs ds p Columns t b

  pub row_wants_twin : (m : Meaning) (ts : List Table) (t : ℕ) (b : Table) → row_wants m ts cs t b ≡ row_wants m ts ds t b
  row_wants_twin m ts t b = cells_two (row_want m (height_in ts) b) (λ c. refl) cs ds p Rows t b

  pub holder_twin : (t : ℕ) → holder t cs ≡ holder t ds
  holder_twin t = ap (λ o. cond (eqb t 0) None o) (sym (holder_clear t 0 cs) ∙ (ap (holder_from t 0) p ∙ holder_clear t 0 ds))

  pub offer_twin : (A : ℕ) (ts : List Table) (t : ℕ) → offer_of A cs ts t ≡ offer_of A ds ts t
  unfolding offer_of cell_width
  offer_twin A ts t =
      let f = cell_width ts in
      sym (at_clear f (λ c. refl) A cs (holder t cs))
      ∙ (ap₂ (λ zs o. seen f A (cell_at zs o)) p (holder_twin t) ∙ at_clear f (λ c. refl) A ds (holder t ds))

-- The laws of the columns, of the offer and of the rows.
use Rattle.std.specs.Prelude.{◌≡◌, ℕ, suc, ◌+◌, ◌-◌, ◌*◌, ◌<◌, ◌≤◌, max, true, false, if◌then◌else◌, ◌&&◌, List, [], ◌∷◌, map, length, ◌==◌, slice_index, slice_index_or}
use Rattle.std.specs.List.{AllByRecursion}
use Rattle.share.specs.Share.{total, stretch}
use Rattle.plan.specs.declared.record.Column.{Column}
use Rattle.plan.specs.Blank.{blank_column}
use Rattle.columns.specs.Wants.{Want}
use Rattle.columns.specs.Columns.{free, fixed_of, free_weights, leasts, greatests, spreads, spanned, raise_one, raise_span, columns_of, widths_of, least_width, greatest_width, around, rows_of}
use Rattle.columns.specs.Tracks.{extent}

-- the cell spans 1 to top + 1 of n columns
abbrev pub Fits : ℕ → ℕ → Want → Type 0
Fits top n x = (1 ≤ x.span) × (x.span ≤ suc top) × (x.first + x.span ≤ n)

-- the leasts of the cell's columns, with the spacings between them, are at least its minimum
abbrev pub Served : ℕ → List Column → Want → Type 0
Served q cs x = x.minimum ≤ total (leasts (spanned x cs)) + (x.span - 1) * q

abbrev pub Ordered : Column → Type 0
Ordered c = c.least ≤ c.greatest

-- nothing in a column passes M
abbrev pub Bounded : ℕ → Column → Type 0
Bounded M c = (c.least ≤ M) × (c.greatest ≤ M)

-- a fixed column has one width, at least the fixed one
abbrev pub Settled : Column → Type 0
Settled c = free c ≡ false → (c.least ≡ c.greatest) × (fixed_of c ≤ c.least)

-- one of the columns that the cell spans is free
abbrev pub Open : Want → List Column → Type 0
Open x cs = 0 < total (free_weights (spanned x cs))

-- the greatests of the cell's columns, with the spacings between them, are at least its maximum
abbrev pub Wide : ℕ → List Column → Want → Type 0
Wide q cs x = x.maximum ≤ total (greatests (spanned x cs)) + (x.span - 1) * q

-- the largest minimum among the cells of span 1 in column j, and at least 1
abbrev pub own_minimum : ℕ → List Want → ℕ
own_minimum j [] = 1
own_minimum j (x ∷ xs) = if x.span == 1 && x.first == j then max x.minimum (own_minimum j xs) else own_minimum j xs

-- a longer span does not raise column j: it does not cover it, or the column is fixed and another one that it covers is free
abbrev pub Spares : List Column → ℕ → Want → Type 0
Spares cs j x = 2 ≤ x.span → x.first ≤ j → j < x.first + x.span → (free (slice_index_or cs j blank_column) ≡ false) × Open x cs

-- a column that no longer span raises has just what its own cells ask, or its fixed width if that is larger
abbrev pub own_least : Column → ℕ → ℕ
own_least c own = max (fixed_of c) own

-- What the pass makes of the columns cols that the cells xs ask for.
pub record Lawful (q : ℕ) (cols : List Column) (xs : List Want) : Type 0 where
  -- there are as many columns, each sized as it was
  pub many : length (columns_of q cols xs) ≡ length cols
  pub sized : map (λ (c : Column). c.sizing) (columns_of q cols xs) ≡ map (λ (c : Column). c.sizing) cols
  -- every cell, of whatever span, has its minimum
  pub met : AllByRecursion (Served q (columns_of q cols xs)) xs
  -- and its maximum, where one of its columns is free
  pub wide : AllByRecursion (λ x. Open x cols → Wide q (columns_of q cols xs) x) xs
  -- no least is above its greatest
  pub ordered : AllByRecursion (λ (x : Want). x.minimum ≤ x.maximum) xs → AllByRecursion Ordered (columns_of q cols xs)
  pub settled : AllByRecursion Settled (columns_of q cols xs)
  -- a column that no longer span raises is no wider than its own cells and its fixed width ask
  pub exact : (j : ℕ) → j < length cols → AllByRecursion (Spares cols j) xs →
      (slice_index_or (columns_of q cols xs) j blank_column).least ≡ own_least (slice_index_or cols j blank_column) (own_minimum j xs)
  -- so with no longer span and no fixed column, each least is the largest minimum among its cells
  pub plain : AllByRecursion (λ (x : Want). x.span ≡ 1) xs → AllByRecursion (λ c. free c ≡ true) cols → (j : ℕ) → j < length cols →
      (slice_index_or (columns_of q cols xs) j blank_column).least ≡ own_minimum j xs

-- column j is no narrower in ds than in cs
pub record NoLower (cs ds : List Column) (j : ℕ) : Type 0 where
  pub least : slice_index (leasts cs) j ≤ slice_index (leasts ds) j
  pub greatest : slice_index (greatests cs) j ≤ slice_index (greatests ds) j

-- A raise never lowers a column.
pub record Rising (q : ℕ) : Type 0 where
  pub one : (x : Want) (cs : List Column) (j : ℕ) → NoLower cs (raise_one x cs) j
  pub span : (x : Want) (cs : List Column) → AllByRecursion Settled cs → (j : ℕ) → NoLower cs (raise_span q x cs) j

-- What an offer of A gives the columns cs.
pub record Offered (q : ℕ) (cs : List Column) (A : ℕ) : Type 0 where
  pub many : length (widths_of q cs A) ≡ length cs
  -- from the least to the greatest width the offer is filled exactly
  pub filled : AllByRecursion Ordered cs → least_width q cs ≤ A → A ≤ greatest_width q cs → total (widths_of q cs A) + around q cs ≡ A
  -- no column is below its least or above its greatest
  pub between : AllByRecursion Ordered cs → (j : ℕ) → (slice_index (leasts cs) j ≤ slice_index (widths_of q cs A) j) × (slice_index (widths_of q cs A) j ≤ slice_index (greatests cs) j)
  -- at most the least width gives the leasts, at least the greatest width gives the greatests
  pub short : A ≤ least_width q cs → widths_of q cs A ≡ leasts cs
  pub ample : AllByRecursion Ordered cs → greatest_width q cs ≤ A → widths_of q cs A ≡ greatests cs
  -- what a stretch of neighbours grows past its leasts is off its exact share, by its spreads, by less than 1
  pub fair : AllByRecursion Ordered cs → least_width q cs ≤ A → A ≤ greatest_width q cs → 0 < total (spreads cs) → (i k : ℕ) →
      ((stretch i k (widths_of q cs A) - stretch i k (leasts cs)) * total (spreads cs) < (A - least_width q cs) * stretch i k (spreads cs) + total (spreads cs))
      × ((A - least_width q cs) * stretch i k (spreads cs) < (stretch i k (widths_of q cs A) - stretch i k (leasts cs)) * total (spreads cs) + total (spreads cs))

-- How tall n rows are for the cells xs.
pub record Stacked (q n : ℕ) (xs : List Want) : Type 0 where
  pub many : length (rows_of q n xs) ≡ n
  -- every cell, of whatever span, has room for its height in its rows and the spacings between them
  pub room : AllByRecursion (λ (x : Want). x.minimum ≤ extent q (rows_of q n xs) x.first x.span) xs
  -- no row is lower than 1
  pub some : AllByRecursion (λ h. 1 ≤ h) (rows_of q n xs)

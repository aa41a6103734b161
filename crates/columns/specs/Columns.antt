-- The columns of a table: what its cells ask of them, and what an offer gives them.
use Rattle.std.specs.Prelude.{ℕ, zero, suc, ◌+◌, ◌-◌, ◌*◌, max, Bool, true, false, if◌then◌else◌, List, [], ◌∷◌, ◌++◌, map, length, take, drop, replicate, ◌==◌, nat_le}
use Rattle.share.specs.Share.{total, parts, ones}
use Rattle.plan.specs.declared.record.Column.{Column}
use Rattle.plan.specs.declared.record.Sizing.{Sizing}
use Rattle.plan.specs.declared.record.Sizing.TheVariants.{Free, Fixed}
use Rattle.columns.specs.Wants.{Want}

abbrev pub leasts : List Column → List ℕ
leasts cs = map (λ c. c.least) cs

abbrev pub greatests : List Column → List ℕ
greatests cs = map (λ c. c.greatest) cs

-- a column is free where no width is fixed for it
abbrev pub is_free : Sizing → Bool
is_free Free = true
is_free (Fixed f) = false

abbrev pub free : Column → Bool
free c = is_free c.sizing

-- the width at which a column is fixed, 0 where it is free
abbrev pub fixed_at : Sizing → ℕ
fixed_at Free = 0
fixed_at (Fixed f) = f

abbrev pub fixed_of : Column → ℕ
fixed_of c = fixed_at c.sizing

-- f done to the k members from place i on, in their place
unfoldable pub over : {A : Type 0} → (List A → List A) → ℕ → ℕ → List A → List A
over f zero k xs = f (take k xs) ++ drop k xs
over f (suc i) k [] = []
over f (suc i) k (x ∷ xs) = x ∷ over f i k xs

-- the columns that a cell spans
abbrev pub spanned : Want → List Column → List Column
spanned x cs = take x.span (drop x.first cs)

-- Step 1: a column starts with 1 and 1, and the cells of span 1 raise it to their minimum and maximum.
abbrev pub fresh : Column → Column
fresh c = record { sizing = c.sizing; least = 1; greatest = 1; width = c.width }

abbrev pub raised_to : Want → Column → Column
raised_to x c = record { sizing = c.sizing; least = max c.least x.minimum; greatest = max c.greatest x.maximum; width = c.width }

abbrev pub raise_one : Want → List Column → List Column
raise_one x cs = over (map (raised_to x)) x.first 1 cs

-- Step 2: a fixed column gets the larger of its width and its least.
abbrev pub held : Column → Column
held c = if free c then c else record { sizing = c.sizing; least = max (fixed_of c) c.least; greatest = max (fixed_of c) c.least; width = c.width }

-- Step 3: a span's need is shared evenly.
-- what m asks above the spacings and what the columns have
abbrev pub need : ℕ → ℕ → ℕ → List ℕ → ℕ
need q span m has = m - (span - 1) * q - total has

abbrev pub free_weights : List Column → List ℕ
free_weights cs = map (λ c. if free c then 1 else 0) cs

-- 1 for each free column, or for each where none is free
abbrev pub none_free : List Column → Bool
none_free cs = total (free_weights cs) == 0

abbrev pub weight : Bool → Column → ℕ
weight all c = if all then 1 else if free c then 1 else 0

abbrev pub even_weights : List Column → List ℕ
even_weights cs = map (weight (none_free cs)) cs

-- each column with its part
unfoldable pub with_parts : (ℕ → Column → Column) → List ℕ → List Column → List Column
with_parts f [] cs = cs
with_parts f (p ∷ ps) [] = []
with_parts f (p ∷ ps) (c ∷ cs) = f p c ∷ with_parts f ps cs

-- the least grows by p; a free column's greatest is then at least that, a fixed one's equals it
abbrev pub more_least : ℕ → Column → Column
more_least p c =
    record {
      sizing = c.sizing;
      least = c.least + p;
      greatest = if free c then max c.greatest (c.least + p) else c.least + p;
      width = c.width;
    }

abbrev pub more_greatest : ℕ → Column → Column
more_greatest p c = record { sizing = c.sizing; least = c.least; greatest = c.greatest + p; width = c.width }

unfoldable pub meet_minimum : ℕ → Want → List Column → List Column
meet_minimum q x cs = with_parts more_least (parts (need q x.span x.minimum (leasts cs)) (even_weights cs)) cs

-- with no free column every part is 0
unfoldable pub meet_maximum : ℕ → Want → List Column → List Column
meet_maximum q x cs = with_parts more_greatest (parts (need q x.span x.maximum (greatests cs)) (free_weights cs)) cs

abbrev pub raise_span : ℕ → Want → List Column → List Column
raise_span q x cs = over (λ ys. meet_maximum q x (meet_minimum q x ys)) x.first x.span cs

-- f done for each cell of span s, in the order of their numbers
unfoldable pub each_of : {S : Type 0} → ℕ → (Want → S → S) → List Want → S → S
each_of s f [] cs = cs
each_of s f (x ∷ xs) cs = each_of s f xs (if x.span == s then f x cs else cs)

-- the cells of span s, then s + 1, and so on, n spans
unfoldable pub spans : {S : Type 0} → (Want → S → S) → ℕ → ℕ → List Want → S → S
spans f zero s xs cs = cs
spans f (suc n) s xs cs = spans f n (suc s) xs (each_of s f xs cs)

-- the whole pass, for spans up to suc n
unfoldable pub pass : ℕ → ℕ → List Column → List Want → List Column
pass n q cs xs = spans (raise_span q) n 2 xs (map held (each_of 1 raise_one xs (map fresh cs)))

-- the columns of a table with spacing q, as its cells ask
abbrev pub columns_of : ℕ → List Column → List Want → List Column
columns_of q cs xs = pass 31 q cs xs

-- The offer.
abbrev pub around : ℕ → List Column → ℕ
around q cs = q * (length cs + 1)

abbrev pub least_width : ℕ → List Column → ℕ
least_width q cs = total (leasts cs) + around q cs

abbrev pub greatest_width : ℕ → List Column → ℕ
greatest_width q cs = total (greatests cs) + around q cs

abbrev pub spreads : List Column → List ℕ
spreads cs = map (λ c. c.greatest - c.least) cs

unfoldable pub sums : List ℕ → List ℕ → List ℕ
sums [] ys = ys
sums (x ∷ xs) [] = []
sums (x ∷ xs) (y ∷ ys) = (x + y) ∷ sums xs ys

unfoldable pub widths_of : ℕ → List Column → ℕ → List ℕ
widths_of q cs A =
    if nat_le A (least_width q cs) then leasts cs
    else if nat_le (greatest_width q cs) A then greatests cs
    else sums (leasts cs) (parts (A - least_width q cs) (spreads cs))

abbrev pub overflow_of : ℕ → List Column → ℕ → ℕ
overflow_of q cs A = least_width q cs - A

-- The rows. A row starts at height 1; the cells of span 1 raise it to their height.
abbrev pub raise_row : Want → List ℕ → List ℕ
raise_row x hs = over (map (λ h. max h x.minimum)) x.first 1 hs

-- a longer span's need is shared evenly over all its rows
unfoldable pub meet_rows : ℕ → Want → List ℕ → List ℕ
meet_rows q x hs = sums hs (parts (need q x.span x.minimum hs) (ones hs))

abbrev pub raise_rows : ℕ → Want → List ℕ → List ℕ
raise_rows q x hs = over (meet_rows q x) x.first x.span hs

unfoldable pub rows_of : ℕ → ℕ → List Want → List ℕ
rows_of q n xs = spans (raise_rows q) 63 2 xs (each_of 1 raise_row xs (replicate n 1))

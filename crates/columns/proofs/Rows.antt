-- The row rule is the column rule where no column is fixed, so that its laws hold of rows too.
use Rattle.std.proofs.Common.{◌≡◌, ℕ, zero, suc, ◌+◌, ◌-◌, ◌*◌, ◌≤◌, max, Bool, true, false, cond, eqb, List, [], ◌∷◌, ◌++◌, map, length, take, drop, replicate, sym, refl, ap, ◌∙◌, subst, ap₂, arith}
use lib.ListN.{length-replicate}
use Rattle.std.specs.List.{AllByRecursion}
use Rattle.std.proofs.ByRecursion.{All-take, All-weaker}
use Rattle.std.proofs.lemmas.List.{take-map, drop-map, length-map}
use Rattle.std.proofs.lemmas.Bool.{cond-true}
use Rattle.share.specs.Share.{total, parts, ones}
use Rattle.share.proofs.Parts.{parts_length}
use Rattle.plan.specs.declared.record.Column.{Column}
use Rattle.columns.specs.Wants.{Want}
use Rattle.plan.specs.declared.record.Sizing.TheVariants.{Free}
use Rattle.plan.specs.Blank.{blank_column}
use Rattle.columns.specs.Columns.{leasts, free, is_free, over, fresh, raised_to, raise_one, held, need, weight, even_weights, none_free, with_parts, more_least, meet_minimum, meet_maximum, raise_span, each_of, spans, pass, sums, raise_row, meet_rows, raise_rows, rows_of}
use Rattle.columns.proofs.Grown.{Grown, none, more, grown_trans, grown_one, grown_span, grown_held, grown_each_of, grown_spans}
use Rattle.columns.specs.Laws.{Fits, Served}
use Rattle.columns.proofs.Served.{leasts_widened, minimums_are_met}

abbrev AllFree : List Column → Type 0
AllFree cs = AllByRecursion (λ (c : Column). c.sizing ≡ Free) cs

free_grown : {cs ds : List Column} → Grown cs ds → AllFree cs → AllFree ds
free_grown none f = tt
free_grown (more h t) f = (sym h.1 ∙ f.0, free_grown t f.1)

leasts_append : (cs ds : List Column) → leasts (cs ++ ds) ≡ leasts cs ++ leasts ds
leasts_append [] ds = refl
leasts_append (c ∷ cs) ds = ap (λ xs. c.least ∷ xs) (leasts_append cs ds)

leasts_over : (f : List Column → List Column) (g : List ℕ → List ℕ) → ((ys : List Column) → AllFree ys → leasts (f ys) ≡ g (leasts ys)) →
    (i k : ℕ) (cs : List Column) → AllFree cs → leasts (over f i k cs) ≡ over g i k (leasts cs)
unfolding over
leasts_over f g h zero k cs fr =
    leasts_append (f (take k cs)) (drop k cs)
    ∙ ap₂ (λ xs ys. xs ++ ys) (h (take k cs) (All-take _ k cs fr) ∙ ap g (sym (take-map (λ c. c.least) k cs))) (sym (drop-map (λ c. c.least) k cs))
leasts_over f g h (suc i) k [] fr = refl
leasts_over f g h (suc i) k (c ∷ cs) fr = ap (λ xs. c.least ∷ xs) (leasts_over f g h i k cs fr.1)

-- one step alike, all steps alike
abbrev Alike : (Want → List Column → List Column) → (Want → List ℕ → List ℕ) → Type 0
Alike f g = (x : Want) (cs : List Column) → AllFree cs → (leasts (f x cs) ≡ g x (leasts cs)) × AllFree (f x cs)

alike_each : (s : ℕ) (f : Want → List Column → List Column) (g : Want → List ℕ → List ℕ) → Alike f g → (xs : List Want) → Alike (λ _. each_of s f xs) (λ _. each_of s g xs)
unfolding each_of
alike_each s f g h [] w cs fr = (refl, fr)
alike_each s f g h (x ∷ xs) w cs fr =
    let one : (b : Bool) → (leasts (cond b (f x cs) cs) ≡ cond b (g x (leasts cs)) (leasts cs)) × AllFree (cond b (f x cs) cs) = elim [ true ↦ h x cs fr | false ↦ (refl, fr) ] in
    let b : Bool = eqb x.span s in
    let r = alike_each s f g h xs w (cond b (f x cs) cs) (one b).1 in
    (r.0 ∙ ap (each_of s g xs) (one b).0, r.1)

alike_spans : (f : Want → List Column → List Column) (g : Want → List ℕ → List ℕ) → Alike f g → (n s : ℕ) (xs : List Want) → Alike (λ _. spans f n s xs) (λ _. spans g n s xs)
unfolding spans
alike_spans f g h zero s xs w cs fr = (refl, fr)
alike_spans f g h (suc n) s xs w cs fr =
    let e = alike_each s f g h xs w cs fr in
    let r = alike_spans f g h n (suc s) xs w (each_of s f xs cs) e.1 in
    (r.0 ∙ ap (spans g n (suc s) xs) e.0, r.1)

leasts_raised : (x : Want) (cs : List Column) → leasts (map (raised_to x) cs) ≡ map (λ h. max h x.minimum) (leasts cs)
leasts_raised x [] = refl
leasts_raised x (c ∷ cs) = ap (λ xs. max c.least x.minimum ∷ xs) (leasts_raised x cs)

alike_one : Alike raise_one raise_row
alike_one x cs fr = (leasts_over (map (raised_to x)) (map (λ h. max h x.minimum)) (λ ys f. leasts_raised x ys) x.first 1 cs fr, free_grown (grown_one x cs) fr)

leasts_more : (ps : List ℕ) (cs : List Column) → length ps ≡ length cs → leasts (with_parts more_least ps cs) ≡ sums (leasts cs) ps
unfolding with_parts sums
leasts_more [] [] e = refl
leasts_more [] (c ∷ cs) e = absurd (omega arith)
leasts_more (p ∷ ps) [] e = absurd (omega arith)
leasts_more (p ∷ ps) (c ∷ cs) e = ap (λ xs. (c.least + p) ∷ xs) (leasts_more ps cs (omega arith))

weight_one : (b : Bool) (c : Column) → c.sizing ≡ Free → weight b c ≡ 1
weight_one true c e = refl
weight_one false c e = cond-true (free c) 1 0 (ap is_free e)

all_ones : (b : Bool) (cs : List Column) → AllFree cs → map (weight b) cs ≡ ones (leasts cs)
unfolding ones
all_ones b [] fr = refl
all_ones b (c ∷ cs) fr = ap₂ (λ x xs. x ∷ xs) (weight_one b c fr.0) (all_ones b cs fr.1)

leasts_meet : (q : ℕ) (x : Want) (ys : List Column) → AllFree ys → leasts (meet_maximum q x (meet_minimum q x ys)) ≡ meet_rows q x (leasts ys)
unfolding meet_maximum meet_minimum meet_rows
leasts_meet q x ys fr =
    let N : ℕ = need q x.span x.minimum (leasts ys) in
    leasts_widened _ (with_parts more_least (parts N (even_weights ys)) ys)
    ∙ (leasts_more (parts N (even_weights ys)) ys (parts_length N (total (even_weights ys)) 0 (even_weights ys) ∙ length-map ys (weight (none_free ys)))
    ∙ ap (λ ws. sums (leasts ys) (parts N ws)) (all_ones (none_free ys) ys fr))

alike_span : (q : ℕ) → Alike (raise_span q) (raise_rows q)
alike_span q x cs fr = (
  leasts_over (λ ys. meet_maximum q x (meet_minimum q x ys)) (meet_rows q x) (leasts_meet q x) x.first x.span cs fr,
  free_grown (grown_span q x cs) fr,
)

leasts_held : (cs : List Column) → AllFree cs → leasts (map held cs) ≡ leasts cs
leasts_held [] fr = refl
leasts_held (c ∷ cs) fr = ap₂ (λ x xs. x ∷ xs) (ap (λ (d : Column). d.least) (cond-true (free c) c _ (ap is_free fr.0))) (leasts_held cs fr.1)

leasts_fresh : (n : ℕ) → leasts (map fresh (replicate n blank_column)) ≡ replicate n 1
leasts_fresh zero = refl
leasts_fresh (suc n) = ap (λ xs. 1 ∷ xs) (leasts_fresh n)

free_fresh : (n : ℕ) → AllFree (map fresh (replicate n blank_column))
free_fresh zero = tt
free_fresh (suc n) = (refl, free_fresh n)

pub rows_are_columns : (q n : ℕ) (xs : List Want) → leasts (pass 63 q (replicate n blank_column) xs) ≡ rows_of q n xs
unfolding pass rows_of
rows_are_columns q n xs =
    let w : Want = record { first = 0; span = 0; minimum = 0; maximum = 0 } in
    let cs : List Column = map fresh (replicate n blank_column) in
    let e = alike_each 1 raise_one raise_row alike_one xs w cs (free_fresh n) in
    let ds : List Column = each_of 1 raise_one xs cs in
    let r = alike_spans (raise_span q) (raise_rows q) (alike_span q) 63 2 xs w (map held ds) (free_grown (grown_held ds) e.1) in
    r.0 ∙ ap (spans (raise_rows q) 63 2 xs) (leasts_held ds e.1 ∙ (e.0 ∙ ap (each_of 1 raise_row xs) (leasts_fresh n)))

-- ---- what follows for rows

leasts_spanned : (i k : ℕ) (cs : List Column) → take k (drop i (leasts cs)) ≡ leasts (take k (drop i cs))
leasts_spanned i k cs = ap (take k) (drop-map (λ (c : Column). c.least) i cs) ∙ take-map (λ (c : Column). c.least) k (drop i cs)

-- every cell has room in the rows that it spans
pub rows_have_room : (q n : ℕ) (xs : List Want) → AllByRecursion (Fits 63 n) xs → AllByRecursion (λ (x : Want). x.minimum ≤ total (take x.span (drop x.first (rows_of q n xs))) + (x.span - 1) * q) xs
rows_have_room q n xs fits =
    let cols : List Column = replicate n blank_column in
    let end : List Column = pass 63 q cols xs in
    let served = minimums_are_met 63 q cols xs (subst (λ k. AllByRecursion (Fits 63 k) xs) (sym (length-replicate n blank_column)) fits) in
    All-weaker (Served q end) (λ (x : Want). x.minimum ≤ total (take x.span (drop x.first (rows_of q n xs))) + (x.span - 1) * q)
    (λ x h. subst (λ hs. x.minimum ≤ total (take x.span (drop x.first hs)) + (x.span - 1) * q) (rows_are_columns q n xs) (subst (λ hs. x.minimum ≤ total hs + (x.span - 1) * q) (sym (leasts_spanned x.first x.span end)) h))
    xs served

least_some : {cs ds : List Column} → Grown cs ds → AllByRecursion (λ (c : Column). 1 ≤ c.least) cs → AllByRecursion (λ h. 1 ≤ h) (leasts ds)
least_some none o = tt
least_some (more h t) o = (omega (arith, h.0, o.0), least_some t o.1)

fresh_some : (n : ℕ) → AllByRecursion (λ (c : Column). 1 ≤ c.least) (map fresh (replicate n blank_column))
fresh_some zero = tt
fresh_some (suc n) = (omega arith, fresh_some n)

-- no row is lower than 1
pub rows_are_some : (q n : ℕ) (xs : List Want) → AllByRecursion (λ h. 1 ≤ h) (rows_of q n xs)
unfolding pass
rows_are_some q n xs =
    let cs : List Column = map fresh (replicate n blank_column) in
    let ds : List Column = each_of 1 raise_one xs cs in
    let g = grown_trans (grown_each_of 1 raise_one grown_one xs cs) (grown_trans (grown_held ds) (grown_spans q 63 2 xs (map held ds))) in
    subst (AllByRecursion (λ h. 1 ≤ h)) (rows_are_columns q n xs) (least_some g (fresh_some n))

-- The column rule looks at no width and at no old measure.
use Rattle.std.proofs.Common.{◌≡◌, ℕ, zero, suc, max, Bool, true, false, cond, eqb, List, [], ◌∷◌, ◌++◌, map, take, drop, sym, refl, ap, ◌∙◌, ap₂}
use mathlib.Core.List.{map-append}
use Rattle.std.proofs.lemmas.List.{take-map, drop-map}
use Rattle.share.specs.Share.{total, parts}
use Rattle.plan.specs.declared.record.Column.{Column}
use Rattle.columns.specs.Wants.{Want}
use Rattle.columns.specs.Columns.{free, fixed_of, over, fresh, raised_to, raise_one, held, need, free_weights, weight, even_weights, with_parts, more_least, more_greatest, meet_minimum, meet_maximum, raise_span, each_of, spans, pass, columns_of}
use Rattle.columns.specs.Tables.{as_wide}

abbrev bare : Column → Column
bare c = as_wide 0 c

abbrev clear : Column → Column
clear c = record { sizing = c.sizing; least = 0; greatest = 0; width = 0 }

-- what a column shows without its width
pub map_bare : {X : Type 0} (f : Column → X) → ((c : Column) → f (as_wide 0 c) ≡ f c) → (cs : List Column) → map f (map (as_wide 0) cs) ≡ map f cs
map_bare f h [] = refl
map_bare f h (c ∷ cs) = ap₂ (λ x xs. x ∷ xs) (h c) (map_bare f h cs)

-- f does the same to columns without their widths
abbrev Blind : (List Column → List Column) → Type 0
Blind f = (cs : List Column) → map bare (f cs) ≡ f (map bare cs)

blind_map : (f : Column → Column) → ((c : Column) → bare (f c) ≡ f (bare c)) → Blind (map f)
blind_map f h [] = refl
blind_map f h (c ∷ cs) = ap₂ (λ x xs. x ∷ xs) (h c) (blind_map f h cs)

blind_over : (f : List Column → List Column) → Blind f → (i k : ℕ) → Blind (over f i k)
unfolding over
blind_over f h zero k cs =
    map-append bare (f (take k cs)) (drop k cs)
    ∙ ap₂ (λ xs ys. xs ++ ys) (h (take k cs) ∙ ap f (sym (take-map bare k cs))) (sym (drop-map bare k cs))
blind_over f h (suc i) k [] = refl
blind_over f h (suc i) k (c ∷ cs) = ap (λ xs. bare c ∷ xs) (blind_over f h i k cs)

blind_parts : (f : ℕ → Column → Column) → ((p : ℕ) (c : Column) → bare (f p c) ≡ f p (bare c)) → (ps : List ℕ) → Blind (with_parts f ps)
unfolding with_parts
blind_parts f h [] cs = refl
blind_parts f h (p ∷ ps) [] = refl
blind_parts f h (p ∷ ps) (c ∷ cs) = ap₂ (λ x xs. x ∷ xs) (h p c) (blind_parts f h ps cs)

weights_bare : (cs : List Column) → free_weights (map bare cs) ≡ free_weights cs
weights_bare cs = map_bare (λ c. cond (free c) 1 0) (λ c. refl) cs

even_bare : (cs : List Column) → even_weights (map bare cs) ≡ even_weights cs
even_bare cs = map_bare _ (λ c. refl) cs ∙ ap (λ ws. map (weight (eqb (total ws) 0)) cs) (weights_bare cs)

blind_minimum : (q : ℕ) (x : Want) → Blind (meet_minimum q x)
unfolding meet_minimum
blind_minimum q x cs =
    blind_parts more_least (λ p c. refl) _ cs
    ∙ ap₂ (λ ls ws. with_parts more_least (parts (need q x.span x.minimum ls) ws) (map bare cs)) (sym (map_bare (λ c. c.least) (λ c. refl) cs)) (sym (even_bare cs))

blind_maximum : (q : ℕ) (x : Want) → Blind (meet_maximum q x)
unfolding meet_maximum
blind_maximum q x cs =
    blind_parts more_greatest (λ p c. refl) _ cs
    ∙ ap₂ (λ gs ws. with_parts more_greatest (parts (need q x.span x.maximum gs) ws) (map bare cs)) (sym (map_bare (λ c. c.greatest) (λ c. refl) cs)) (sym (weights_bare cs))

blind_one : (x : Want) → Blind (raise_one x)
blind_one x = blind_over (map (raised_to x)) (blind_map (raised_to x) (λ c. refl)) x.first 1

blind_span : (q : ℕ) (x : Want) → Blind (raise_span q x)
blind_span q x =
    blind_over (λ ys. meet_maximum q x (meet_minimum q x ys))
    (λ ys. blind_maximum q x (meet_minimum q x ys) ∙ ap (meet_maximum q x) (blind_minimum q x ys)) x.first x.span

blind_cond : (b : Bool) (f : List Column → List Column) → Blind f → Blind (λ cs. cond b (f cs) cs)
blind_cond true f h cs = h cs
blind_cond false f h cs = refl

blind_each : (s : ℕ) (f : Want → List Column → List Column) → ((x : Want) → Blind (f x)) → (xs : List Want) → Blind (each_of s f xs)
unfolding each_of
blind_each s f h [] cs = refl
blind_each s f h (x ∷ xs) cs = blind_each s f h xs _ ∙ ap (each_of s f xs) (blind_cond (eqb x.span s) (f x) (h x) cs)

blind_spans : (f : Want → List Column → List Column) → ((x : Want) → Blind (f x)) → (n s : ℕ) (xs : List Want) → Blind (spans f n s xs)
unfolding spans
blind_spans f h zero s xs cs = refl
blind_spans f h (suc n) s xs cs = blind_spans f h n (suc s) xs _ ∙ ap (spans f n (suc s) xs) (blind_each s f h xs cs)

held_bare : (c : Column) → bare (held c) ≡ held (bare c)
held_bare c = go (free c)
  where
    d : Column
    d = record { sizing = c.sizing; least = max (fixed_of c) c.least; greatest = max (fixed_of c) c.least; width = c.width }

    go : (b : Bool) → bare (cond b c d) ≡ cond b (bare c) (bare d)
    go true = refl
    go false = refl

fresh_bare : (cols : List Column) → map bare (map fresh cols) ≡ map fresh (map clear cols)
fresh_bare [] = refl
fresh_bare (c ∷ cols) = ap (λ xs. bare (fresh c) ∷ xs) (fresh_bare cols)

pub columns_by_sizing : (q : ℕ) (cols : List Column) (xs : List Want) →
    map (as_wide 0) (columns_of q cols xs) ≡ columns_of q (map (λ (c : Column). record { sizing = c.sizing; least = 0; greatest = 0; width = 0 }) cols) xs
unfolding pass
columns_by_sizing q cols xs =
    blind_spans (raise_span q) (blind_span q) 31 2 xs _
    ∙ ap (spans (raise_span q) 31 2 xs)
    (blind_map held held_bare _
    ∙ ap (map held) (blind_each 1 raise_one blind_one xs _ ∙ ap (each_of 1 raise_one xs) (fresh_bare cols)))

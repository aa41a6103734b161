-- How lines are filled from word to word.
use Rattle.std.proofs.Common.{◌≡◌, ℕ, ◌+◌, ◌<◌, ◌≤◌, max, leb, List, [], ◌∷◌, ◌++◌, length, take, drop, set, sym, ap, ◌∙◌, arith, length-take}
use Rattle.std.proofs.lemmas.Bool.{cond-true, cond-false, cond_both, le-leb, lt-leb}
use Rattle.std.proofs.lemmas.List.{take_more_set}
use Rattle.typeset.proofs.Steps.{front_more}
use Rattle.typeset.proofs.Onto.{onto_some, length_onto}
use Rattle.letters.specs.Letters.{letters_from}
use Rattle.letters.specs.declared.Kind.TheVariants.{Text}
use Rattle.typeset.specs.Words.{words_from, longest, Found}
use Rattle.typeset.specs.Lines.{places, onto, filled}

-- the word that was found
abbrev pub word_at : List ℕ → ℕ → ℕ → List ℕ
word_at s from n = take n (letters_from Text s from)

pub width_found : (s : List ℕ) (at from to n : ℕ) → Found s at from to n → length (word_at s from n) ≡ n
width_found s at from to n f = omega (arith, length-take n (letters_from Text s from))

pub longest_found : (s : List ℕ) (at from to n : ℕ) → Found s at from to n → longest (words_from s at) ≡ max n (longest (words_from s to))
longest_found s at from to n f = ap longest f.first ∙ ap (λ k. max k (longest (words_from s to))) (width_found s at from to n f)

pub places_found : (s : List ℕ) (at from to n : ℕ) → Found s at from to n → places (words_from s at) ≡ n + 1 + places (words_from s to)
places_found s at from to n f = ap places f.first ∙ ap (λ k. k + 1 + places (words_from s to)) (width_found s at from to n f)

pub filled_fits : (w t : ℕ) (v : List ℕ) (vs : List (List ℕ)) → t + length v ≤ w → filled w t (v ∷ vs) ≡ onto v (filled w (t + (length v + 1)) vs)
filled_fits w t v vs h = cond-true (leb (t + length v) w) _ _ (le-leb (t + length v) w h)

pub filled_breaks : (w t : ℕ) (v : List ℕ) (vs : List (List ℕ)) → w < t + length v → filled w t (v ∷ vs) ≡ [] ∷ onto v (filled w (length v + 1) vs)
filled_breaks w t v vs h = cond-false (leb (t + length v) w) _ _ (lt-leb (t + length v) w h)

pub fits_found : (w t : ℕ) (s : List ℕ) (at from to n : ℕ) → Found s at from to n → t + n ≤ w → filled w t (words_from s at) ≡ onto (word_at s from n) (filled w (t + (n + 1)) (words_from s to))
fits_found w t s at from to n f h =
    let e = width_found s at from to n f in
    ap (filled w t) f.first ∙ filled_fits w t (word_at s from n) (words_from s to) (omega arith) ∙
    ap (λ k. onto (word_at s from n) (filled w (t + (k + 1)) (words_from s to))) e

pub breaks_found : (w t : ℕ) (s : List ℕ) (at from to n : ℕ) → Found s at from to n → w < t + n → filled w t (words_from s at) ≡ [] ∷ onto (word_at s from n) (filled w (n + 1) (words_from s to))
breaks_found w t s at from to n f h =
    let e = width_found s at from to n f in
    ap (filled w t) f.first ∙ filled_breaks w t (word_at s from n) (words_from s to) (omega arith) ∙
    ap (λ k. [] ∷ onto (word_at s from n) (filled w (k + 1) (words_from s to))) e

pub filled_some : (w t : ℕ) (ws : List (List ℕ)) → 0 < length (filled w t ws)
filled_some w t [] = omega arith
filled_some w t (v ∷ vs) = cond_both (leb (t + length v) w) _ _ (λ ls. 0 < length ls) (λ _. onto_some v (filled w (t + (length v + 1)) vs)) (λ _. omega arith)

pub count_fits : (w t : ℕ) (s : List ℕ) (at from to n : ℕ) → Found s at from to n → t + n ≤ w → length (filled w t (words_from s at)) ≡ length (filled w (t + (n + 1)) (words_from s to))
count_fits w t s at from to n f h =
    ap length (fits_found w t s at from to n f h) ∙ length_onto (word_at s from n) (filled w (t + (n + 1)) (words_from s to)) (filled_some w (t + (n + 1)) (words_from s to))

pub count_breaks : (w t : ℕ) (s : List ℕ) (at from to n : ℕ) → Found s at from to n → w < t + n → length (filled w t (words_from s at)) ≡ 1 + length (filled w (n + 1) (words_from s to))
count_breaks w t s at from to n f h =
    let e = length_onto (word_at s from n) (filled w (n + 1) (words_from s to)) (filled_some w (n + 1) (words_from s to)) in
    let g = ap length (breaks_found w t s at from to n f h) in
    omega arith

pub count_end : (w t : ℕ) (ws : List (List ℕ)) → ws ≡ [] → length (filled w t ws) ≡ 1
count_end w t ws e = ap (λ vs. length (filled w t vs)) e

pub write_more : (s all out : List ℕ) (i c next at : ℕ) → drop i all ≡ letters_from Text s at → letters_from Text s at ≡ c ∷ letters_from Text s next → take i out ≡ take i all → i < length out → (drop (i + 1) all ≡ letters_from Text s next) × (take (i + 1) (set out i c) ≡ take (i + 1) all)
write_more s all out i c next at left step same h =
    let f = front_more i all c (letters_from Text s next) (left ∙ step) in
    (f.1, take_more_set out i c h ∙ ap (λ t. t ++ c ∷ []) same ∙ sym f.2)

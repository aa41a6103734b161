-- What is written over blanks.
use Rattle.std.proofs.Common.{◌≡◌, ℕ, suc, ◌+◌, ◌-◌, ◌<◌, ◌≤◌, List, [], ◌∷◌, ◌++◌, length, replicate, sym, refl, ap, ◌∙◌, arith, length-append}
use borrow.Rule.Slice.PartMut.{put_mid}
use Rattle.std.proofs.lemmas.List.{append_assoc, take_at, drop_at, drop-replicate}
use Rattle.typeset.specs.Words.{words_from, longest, Found}
use Rattle.typeset.specs.Lines.{spaced, shown, first, filled, lines}
use Rattle.typeset.proofs.Filling.{word_at, fits_found, breaks_found, width_found, filled_some}
use Rattle.typeset.proofs.Onto.{first_onto}
use Rattle.typeset.proofs.Laws.{nothing_lost}

-- each word written, a place left after it
abbrev pub overlaid : List ℕ → ℕ → List (List ℕ) → List ℕ
overlaid out t [] = out
overlaid out t (v ∷ vs) = overlaid (put_mid t (length v) out v) (t + (length v + 1)) vs

put_over : (pre v : List ℕ) (k t : ℕ) → length pre ≡ t → put_mid t (length v) (pre ++ replicate k 32) v ≡ pre ++ (v ++ replicate (k - length v) 32)
put_over pre v k t e = rw (take_at pre (replicate k 32) t e, drop_at pre (replicate k 32) t e, drop-replicate {X = ℕ} (length v) k 32) refl

pub overlaid_blank : (pre : List ℕ) (k t : ℕ) (l : List (List ℕ)) → length pre ≡ t → length (spaced l) ≤ k → overlaid (pre ++ replicate k 32) t l ≡ pre ++ shown k l
overlaid_blank pre k t [] e h = ap (λ n. pre ++ replicate n 32) (omega arith)
overlaid_blank pre k t (v ∷ []) e h = put_over pre v k t e
overlaid_blank pre k t (v ∷ (u ∷ us)) e h =
    let n : ℕ = k - (length v + 1) in
    let text : List ℕ = spaced (u ∷ us) in
    let front : List ℕ = pre ++ (v ++ 32 ∷ []) in
    let len : length (v ++ 32 ∷ text) ≡ length v + (1 + length text) = length-append v (32 ∷ text) ∙ omega arith in
    let long : length front ≡ t + (length v + 1) = length-append pre (v ++ 32 ∷ []) ∙ omega (arith, length-append v (32 ∷ [])) in
    let gone : k - length v ≡ suc n = omega arith in
    let blank : replicate (k - length v) 32 ≡ 32 ∷ replicate n 32 = ap (λ (j : ℕ). replicate {A = ℕ} j 32) gone in
    let regroup : front ++ replicate n 32 ≡ pre ++ (v ++ (32 ∷ replicate n 32)) = simp append_assoc in
    let put : put_mid t (length v) (pre ++ replicate k 32) v ≡ front ++ replicate n 32 = put_over pre v k t e ∙ ap (λ b. pre ++ (v ++ b)) blank ∙ sym regroup in
    let more = overlaid_blank front n (t + (length v + 1)) (u ∷ us) long (omega arith) in
    let same : front ++ (text ++ replicate (n - length text) 32) ≡ pre ++ ((v ++ (32 ∷ text)) ++ replicate (n - length text) 32) = simp append_assoc in
    ap (λ out. overlaid out (t + (length v + 1)) (u ∷ us)) put ∙ more ∙ same ∙ ap (λ j. pre ++ ((v ++ (32 ∷ text)) ++ replicate j 32)) (omega arith)

pub overlaid_all : (w : ℕ) (l : List (List ℕ)) → length (spaced l) ≤ w → overlaid (replicate w 32) 0 l ≡ shown w l
overlaid_all w l h = overlaid_blank [] w 0 l refl h

pub overlay_more : (w t : ℕ) (out : List ℕ) (s : List ℕ) (at from to n : ℕ) → Found s at from to n → t + n ≤ w → overlaid out t (first (filled w t (words_from s at))) ≡ overlaid (put_mid t n out (word_at s from n)) (t + (n + 1)) (first (filled w (t + (n + 1)) (words_from s to)))
overlay_more w t out s at from to n f h =
    ap (λ ls. overlaid out t (first ls)) (fits_found w t s at from to n f h) ∙ ap (overlaid out t) (first_onto (word_at s from n) (filled w (t + (n + 1)) (words_from s to))) ∙
    ap (λ k. overlaid (put_mid t k out (word_at s from n)) (t + (k + 1)) (first (filled w (t + (n + 1)) (words_from s to)))) (width_found s at from to n f)

pub overlay_full : (w t : ℕ) (out : List ℕ) (s : List ℕ) (at from to n : ℕ) → Found s at from to n → w < t + n → overlaid out t (first (filled w t (words_from s at))) ≡ out
overlay_full w t out s at from to n f h = ap (λ ls. overlaid out t (first ls)) (breaks_found w t s at from to n f h)

pub overlay_end : (w t : ℕ) (out : List ℕ) (ws : List (List ℕ)) → ws ≡ [] → overlaid out t (first (filled w t ws)) ≡ out
overlay_end w t out ws e = ap (λ vs. overlaid out t (first (filled w t vs))) e

pub overlay_done : (w : ℕ) (old out : List ℕ) (ws : List (List ℕ)) → out ≡ overlaid old 0 (first (lines w ws)) → old ≡ replicate w 32 → longest ws ≤ w → out ≡ shown w (first (lines w ws))
overlay_done w old out ws e blank h =
    e ∙ ap (λ o. overlaid o 0 (first (lines w ws))) blank ∙ overlaid_all w (first (lines w ws)) ((nothing_lost ws w h).within 0 (filled_some w 0 ws))

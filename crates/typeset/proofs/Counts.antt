-- There are no more lines than bytes, and one.
use Rattle.std.proofs.Common.{ℕ, zero, suc, ◌+◌, ◌≤◌, leb, List, [], ◌∷◌, ◌++◌, length, arith, length-append}
use Rattle.std.proofs.lemmas.Bool.{cond_both}
use Rattle.classes.specs.Classes.{white}
use Rattle.letters.specs.Letters.{letter_of, letters, letters_after}
use Rattle.letters.specs.declared.Kind.{Kind}
use Rattle.letters.specs.declared.Kind.TheVariants.{Text}
use Rattle.typeset.specs.Words.{closed, parted, words}
use Rattle.typeset.specs.Lines.{onto, filled, lines}
use Rattle.typeset.proofs.Onto.{length_onto}
use Rattle.typeset.proofs.Filling.{filled_some}

pub letters_count : (kind : Kind) (n : ℕ) (bs : List ℕ) → length (letters_after kind n bs) ≤ length bs
letters_count kind n [] = omega arith
letters_count kind zero (b ∷ bs) = omega (arith, letters_count kind (letter_of kind (b ∷ bs)).1 bs)
letters_count kind (suc n) (b ∷ bs) = omega (arith, letters_count kind n bs)

closed_count : (v : List ℕ) (ws : List (List ℕ)) → length (closed v ws) ≤ length v + length ws
closed_count [] ws = omega arith
closed_count (c ∷ v) ws = omega arith

parted_count : (v cs : List ℕ) → length (parted v cs) ≤ length v + length cs
parted_count v [] = closed_count v []
parted_count v (c ∷ cs) =
    cond_both (white c) _ _ (λ ws. length ws ≤ length v + length (c ∷ cs))
    (λ _. omega (arith, closed_count v (parted [] cs), parted_count [] cs))
    (λ _. omega (arith, parted_count (v ++ c ∷ []) cs, length-append v (c ∷ [])))

onto_count : (v : List ℕ) (ls : List (List (List ℕ))) → length (onto v ls) ≤ length ls + 1
onto_count v [] = omega arith
onto_count v (l ∷ ls) = omega arith

filled_count : (w t : ℕ) (ws : List (List ℕ)) → length (filled w t ws) ≤ length ws + 1
filled_count w t [] = omega arith
filled_count w t (v ∷ vs) =
    cond_both (leb (t + length v) w) _ _ (λ ls. length ls ≤ length (v ∷ vs) + 1)
    (λ _. omega (arith, onto_count v (filled w (t + (length v + 1)) vs), filled_count w (t + (length v + 1)) vs))
    (λ _. omega (arith, length_onto v (filled w (length v + 1) vs) (filled_some w (length v + 1) vs), filled_count w (length v + 1) vs))

pub lines_count : (w : ℕ) (bs : List ℕ) → length (lines w (words (letters Text bs))) ≤ length bs + 1
lines_count w bs = omega (arith, filled_count w 0 (words (letters Text bs)), parted_count [] (letters Text bs), letters_count Text 0 bs)

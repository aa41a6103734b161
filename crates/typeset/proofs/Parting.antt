-- The words of characters are those that the characters part into.
use Rattle.std.proofs.Common.{◌≡◌, ℕ, false, not, List, [], ◌∷◌, ◌++◌, refl, ap, ◌∙◌, subst, arith}
use Rattle.std.specs.List.{AllByRecursion}
use Rattle.std.proofs.lemmas.List.{append_assoc}
use Rattle.std.proofs.ByRecursion.{All-push}
use Rattle.std.proofs.lemmas.Bool.{cond_both, cond-true, not-false}
use Rattle.classes.specs.Classes.{white}
use Rattle.typeset.specs.Words.{closed, parted, words, inked}
use Rattle.typeset.specs.Runs.{Parts, nothing, blank, word}
use Rattle.typeset.proofs.Steps.{parted_white, closed_some}
use Rattle.typeset.proofs.Back.{Black, parted_run}

at_end : (v cs : List ℕ) → inked cs ≡ false → parted v cs ≡ closed v (words cs)
at_end v [] e = refl
at_end v (c ∷ cs) e = parted_white v c cs (not-false (white c) e)

pub parts_words : {cs : List ℕ} {ws : List (List ℕ)} → Parts cs ws → words cs ≡ ws
parts_words nothing = refl
parts_words (blank c cs ws e p) = cond-true (white c) _ _ e ∙ parts_words p
parts_words (word v cs ws s e p) = parted_run [] v cs s.1 ∙ at_end v cs e ∙ closed_some v (words cs) s.0 ∙ ap (λ t. v ∷ t) (parts_words p)

ends_here : (v cs : List ℕ) (ws : List (List ℕ)) → AllByRecursion Black v → inked cs ≡ false → Parts cs ws → Parts (v ++ cs) (closed v ws)
ends_here [] cs ws a e p = p
ends_here (c ∷ v) cs ws a e p = word (c ∷ v) cs ws (omega arith, a) e p

parted_parts : (v cs : List ℕ) → AllByRecursion Black v → Parts (v ++ cs) (parted v cs)
parted_parts v [] a = ends_here v [] [] a refl nothing
parted_parts v (c ∷ cs) a =
    cond_both (white c) _ _ (Parts (v ++ c ∷ cs))
    (λ e. ends_here v (c ∷ cs) (parted [] cs) a (ap not e) (blank c cs (parted [] cs) e (parted_parts [] cs tt)))
    (λ e. subst (λ t. Parts t (parted (v ++ c ∷ []) cs)) (append_assoc v (c ∷ []) cs) (parted_parts (v ++ c ∷ []) cs (All-push Black v c a e)))

pub words_parts : (cs : List ℕ) → Parts cs (words cs)
words_parts cs = parted_parts [] cs tt

-- The words of a line as it is shown are the words that were set.
use Rattle.std.proofs.Common.{◌≡◌, ℕ, zero, suc, false, List, [], ◌∷◌, ◌++◌, get_or, replicate, sym, refl, ap, ◌∙◌, arith}
use Rattle.std.specs.List.{AllByRecursion}
use Rattle.std.proofs.lemmas.List.{append_assoc, append-nil}
use Rattle.std.proofs.ByRecursion.{All-push}
use Rattle.std.proofs.lemmas.Bool.{cond_both}
use Rattle.classes.specs.Classes.{white}
use Rattle.typeset.specs.Words.{closed, parted, words}
use Rattle.typeset.specs.Runs.{Solid}
use Rattle.typeset.specs.Lines.{spaced, shown, lines}
use Rattle.typeset.proofs.Steps.{parted_black, closed_some}
use Rattle.typeset.proofs.Each.{each_at, each_filled}

abbrev pub Black : ℕ → Type 0
Black c = white c ≡ false

pub parted_run : (v u cs : List ℕ) → AllByRecursion Black u → parted v (u ++ cs) ≡ parted (v ++ u) cs
parted_run v [] cs a = ap (λ t. parted t cs) (sym (append-nil v))
parted_run v (c ∷ u) cs a = parted_black v c (u ++ cs) a.0 ∙ parted_run (v ++ c ∷ []) u cs a.1 ∙ ap (λ t. parted t cs) (append_assoc v (c ∷ []) u)

-- a word, white space, and what follows
pub words_more : (v cs : List ℕ) → Solid v → words (v ++ (32 ∷ cs)) ≡ v ∷ words cs
words_more v cs s = parted_run [] v (32 ∷ cs) s.1 ∙ closed_some v (words cs) s.0

pub words_blank : (n : ℕ) → words (replicate n 32) ≡ []
words_blank zero = refl
words_blank (suc n) = words_blank n

words_last : (v : List ℕ) (n : ℕ) → Solid v → parted v (replicate n 32) ≡ v ∷ []
words_last v zero s = closed_some v [] s.0
words_last v (suc n) s = closed_some v (words (replicate n 32)) s.0 ∙ ap (λ ws. v ∷ ws) (words_blank n)

pub words_spaced : (l : List (List ℕ)) (n : ℕ) → AllByRecursion Solid l → words (spaced l ++ replicate n 32) ≡ l
words_spaced [] n a = words_blank n
words_spaced (v ∷ []) n a = parted_run [] v (replicate n 32) a.0.1 ∙ words_last v n a.0
words_spaced (v ∷ (u ∷ us)) n a =
    ap words (append_assoc v (32 ∷ spaced (u ∷ us)) (replicate n 32)) ∙ words_more v (spaced (u ∷ us) ++ replicate n 32) a.0 ∙ ap (λ ws. v ∷ ws) (words_spaced (u ∷ us) n a.1)

solid_closed : (v : List ℕ) (ws : List (List ℕ)) → AllByRecursion Black v → AllByRecursion Solid ws → AllByRecursion Solid (closed v ws)
solid_closed [] ws a b = b
solid_closed (c ∷ v) ws a b = ((omega arith, a), b)

solid_parted : (v cs : List ℕ) → AllByRecursion Black v → AllByRecursion Solid (parted v cs)
solid_parted v [] a = solid_closed v [] a tt
solid_parted v (c ∷ cs) a =
    cond_both (white c) _ _ (λ ws. AllByRecursion Solid ws)
    (λ _. solid_closed v (parted [] cs) a (solid_parted [] cs tt))
    (λ e. solid_parted (v ++ c ∷ []) cs (All-push Black v c a e))

pub solid_words : (cs : List ℕ) → AllByRecursion Solid (words cs)
solid_words cs = solid_parted [] cs tt

-- what is read on a line is what was set on it
pub read_line : (cs : List ℕ) (w r : ℕ) → words (shown w (get_or (lines w (words cs)) r [])) ≡ get_or (lines w (words cs)) r []
read_line cs w r =
    words_spaced (get_or (lines w (words cs)) r []) _ (each_at (AllByRecursion Solid) (lines w (words cs)) r [] (each_filled Solid w 0 (words cs) (solid_words cs)) tt)

-- What holds of each character of a text holds of each character of its lines.
use Rattle.std.proofs.Common.{◌≡◌, ℕ, zero, suc, ◌+◌, ◌-◌, ◌≤◌, false, leb, List, [], ◌∷◌, ◌++◌, length, get_or, arith}
use Rattle.std.specs.List.{AllByRecursion}
use Rattle.std.proofs.ByRecursion.{All-append, All-push}
use Rattle.std.proofs.lemmas.Bool.{cond_both}
use Rattle.classes.specs.Classes.{white}
use Rattle.typeset.specs.Words.{closed, parted, words, longest}
use Rattle.typeset.specs.Lines.{spaced, places, onto, filled, lines}
use Rattle.typeset.proofs.Laws.{length_spaced}

pub each_at : {X : Type 0} (P : X → Type 0) (xs : List X) (i : ℕ) (d : X) → AllByRecursion P xs → P d → P (get_or xs i d)
each_at P [] i d a p = p
each_at P (x ∷ xs) zero d a p = a.0
each_at P (x ∷ xs) (suc i) d a p = each_at P xs i d a.1 p

module _ (R : List ℕ → Type 0) where
  each_onto : (v : List ℕ) (ls : List (List (List ℕ))) → R v → AllByRecursion (AllByRecursion R) ls → AllByRecursion (AllByRecursion R) (onto v ls)
  each_onto v [] a b = ((a, tt), tt)
  each_onto v (l ∷ ls) a b = ((a, b.0), b.1)

  pub each_filled : (w t : ℕ) (ws : List (List ℕ)) → AllByRecursion R ws → AllByRecursion (AllByRecursion R) (filled w t ws)
  each_filled w t [] a = (tt, tt)
  each_filled w t (v ∷ vs) a =
      cond_both (leb (t + length v) w) _ _ (λ ls. AllByRecursion (AllByRecursion R) ls)
      (λ _. each_onto v (filled w (t + (length v + 1)) vs) a.0 (each_filled w (t + (length v + 1)) vs a.1))
      (λ _. (tt, each_onto v (filled w (length v + 1) vs) a.0 (each_filled w (length v + 1) vs a.1)))

module _ (Q : ℕ → Type 0) where
  each_closed : (v : List ℕ) (ws : List (List ℕ)) → AllByRecursion Q v → AllByRecursion (AllByRecursion Q) ws → AllByRecursion (AllByRecursion Q) (closed v ws)
  each_closed [] ws a b = b
  each_closed (c ∷ v) ws a b = (a, b)

  pub each_parted : (v cs : List ℕ) → AllByRecursion Q v → AllByRecursion (λ c. white c ≡ false → Q c) cs → AllByRecursion (AllByRecursion Q) (parted v cs)
  each_parted v [] a b = each_closed v [] a tt
  each_parted v (c ∷ cs) a b =
      cond_both (white c) _ _ (λ ws. AllByRecursion (AllByRecursion Q) ws)
      (λ _. each_closed v (parted [] cs) a (each_parted [] cs tt b.1))
      (λ e. each_parted (v ++ c ∷ []) cs (All-push Q v c a (b.0 e)) b.1)

  pub each_spaced : (l : List (List ℕ)) → Q 32 → AllByRecursion (AllByRecursion Q) l → AllByRecursion Q (spaced l)
  each_spaced [] b a = tt
  each_spaced (v ∷ []) b a = a.0
  each_spaced (v ∷ (u ∷ us)) b a = All-append Q v (32 ∷ spaced (u ∷ us)) a.0 (b, each_spaced (u ∷ us) b a.1)

  -- the character at any place of any line
  pub each_shown : (cs : List ℕ) (w r i : ℕ) → Q 32 → AllByRecursion (λ c. white c ≡ false → Q c) cs → Q (get_or (spaced (get_or (lines w (words cs)) r [])) i 32)
  each_shown cs w r i b a =
      let ls = each_filled (AllByRecursion Q) w 0 (words cs) (each_parted [] cs tt a) in
      let l : AllByRecursion (AllByRecursion Q) (get_or (lines w (words cs)) r []) = each_at (AllByRecursion (AllByRecursion Q)) (lines w (words cs)) r [] ls tt in
      each_at Q (spaced (get_or (lines w (words cs)) r [])) i 32 (each_spaced (get_or (lines w (words cs)) r []) b l) b

pub longest_places : (ws : List (List ℕ)) → longest ws ≤ places ws - 1
longest_places [] = omega arith
longest_places (v ∷ vs) = omega (arith, longest_places vs)

-- the longest word is no longer than all words together
pub longest_spaced : (ws : List (List ℕ)) → longest ws ≤ length (spaced ws)
longest_spaced ws = omega (arith, longest_places ws, length_spaced ws)

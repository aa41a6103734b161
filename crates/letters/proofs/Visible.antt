-- Which characters there are.
use Rattle.std.proofs.Common.{◌≡◌, ℕ, zero, suc, ◌<◌, ◌≤◌, Bool, true, false, eqb, ltb, List, [], ◌∷◌, arith, lit≤}
use Rattle.std.specs.List.{AllByRecursion}
use Rattle.std.proofs.lemmas.Bool.{cond_both, and_parts, ltb-true}
use Rattle.std.proofs.lemmas.Bool.Decides.{nat_tests}
use Rattle.classes.specs.Classes.{white}
use Rattle.letters.specs.declared.Kind.{Kind}
use Rattle.letters.specs.declared.Kind.TheVariants.{Text, Block}
use Rattle.letters.specs.Letters.{plain, itself, letter_of, letters, letters_after, sound}
use Rattle.letters.proofs.Steps.{by_letter}

-- it can be shown
abbrev pub Seen : ℕ → Type 0
Seen c = (32 ≤ c) × (c ≤ 126)

-- a character parts words in a text, and lines in a block; all others can be shown
abbrev pub parting : Kind → ℕ → Bool
parting Text c = white c
parting Block c = eqb c 10

abbrev Shows : Kind → ℕ → Type 0
Shows kind c = 0 < c → parting kind c ≡ false → Seen c

plain_shows : (kind : Kind) (b : ℕ) → plain kind b ≡ true → Shows kind b
plain_shows Text b q = λ p e. (grind (arith, nat_tests), grind (arith, nat_tests))
plain_shows Block b q = λ p e. (grind (arith, nat_tests), grind (arith, nat_tests))

module _ (kind : Kind) where
  itself_shows : (bs : List ℕ) → Shows kind (itself kind bs).0
  itself_shows [] = λ p e. absurd (omega arith)
  itself_shows (b ∷ bs) = cond_both {A = ℕ × ℕ} (plain kind b) _ _ (λ v. Shows kind v.0) (plain_shows kind b) (λ _ p e. absurd (omega arith))

  letter_shows : (bs : List ℕ) → Shows kind (letter_of kind bs).0
  letter_shows bs =
      by_letter kind bs (λ v. Shows kind v.0) (λ _ _ _. (lit≤ tt, lit≤ tt)) (λ _ _ _. (lit≤ tt, lit≤ tt)) (λ _ _ _. (lit≤ tt, lit≤ tt)) (λ _ _ _. (lit≤ tt, lit≤ tt)) (itself_shows bs)

  letters_show : (n : ℕ) (bs : List ℕ) → AllByRecursion (Shows kind) (letters_after kind n bs)
  letters_show n [] = tt
  letters_show zero (b ∷ bs) = (letter_shows (b ∷ bs), letters_show (letter_of kind (b ∷ bs)).1 bs)
  letters_show (suc n) (b ∷ bs) = letters_show n bs

  sound_shows : (cs : List ℕ) → sound cs ≡ true → AllByRecursion (Shows kind) cs → AllByRecursion (λ c. parting kind c ≡ false → Seen c) cs
  sound_shows [] e a = tt
  sound_shows (c ∷ cs) e a = let p = and_parts (ltb 0 c) (sound cs) e in (a.0 (ltb-true 0 c p.0), sound_shows cs p.1 a.1)

  -- every character that does not part words or lines can be shown
  pub seen_letters : (bs : List ℕ) → sound (letters kind bs) ≡ true → AllByRecursion (λ c. parting kind c ≡ false → Seen c) (letters kind bs)
  seen_letters bs e = sound_shows (letters kind bs) e (letters_show 0 bs)

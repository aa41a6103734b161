-- How the verdict goes on from character to character, and what it says.
use Rattle.std.proofs.Common.{◌≡◌, ℕ, zero, suc, ◌+◌, ◌<◌, Bool, false, cond, not, eqb, List, [], ◌∷◌, ◌++◌, length, take, drop, Some, None, Err, codes, Option, Result, MatchOption, Bor, sym, refl, ap, ◌∙◌, subst, arith, length-drop, take-add}
use Rattle.std.specs.List.{find}
use Rattle.std.specs.Option.{option_map}
use Rattle.std.proofs.lemmas.Slice.Eq.{bytes_eq-Decides}
use Rattle.std.proofs.lemmas.List.{drop-drop}
use Rattle.std.proofs.lemmas.Bool.{cond_both, cond-false, ne_eqb}
use Rattle.std.proofs.lemmas.Bool.Decides.{nat_tests}
use Rattle.fault.specs.Numbers.{fault}
use Rattle.fault.specs.declared.Fault.{Fault}
use Rattle.classes.specs.Classes.{from_to}
use Rattle.letters.specs.declared.Kind.{Kind}
use Rattle.letters.specs.Letters.{plain, allowed, itself, letter_of, letter_at, letters}
use Rattle.letters.specs.declared.Letter.{Letter}
use Rattle.letters.specs.Spelling.{Spells, nothing, byte, less, greater, ampersand, quote}
use Rattle.letters.specs.Verdicts.{ends_badly, reason_of, verdict_after}
use Rattle.letters.proofs.Steps.{by_letter}
use Rattle.letters.proofs.Spelled.{spelled_read}

module _ (kind : Kind) where
  -- what the first byte that is no small letter says
  said : Option ℕ → Bool
  said None = false
  said (Some b) = not (allowed kind b)

  ends_badly-find : (bs : List ℕ) → ends_badly kind bs ≡ said (find (λ b. not (from_to 97 122 b)) bs)
  unfolding said
  ends_badly-find [] = refl
  ends_badly-find (b ∷ bs) =
      cond_both {A = Bool} (from_to 97 122 b) (ends_badly kind bs) (not (allowed kind b)) (λ v. v ≡ said (find (λ b. not (from_to 97 122 b)) (b ∷ bs))) (λ e. simp e (ends_badly-find bs)) (λ e. simp e)

  pub badly_found : (bs : List ℕ) (r : Option (Bor ℕ)) (answer : Bool) → option_map (λ (b : Bor ℕ). b.now) r ≡ find (λ b. not (from_to 97 122 b)) bs → MatchOption r (answer ≡ false) (λ b. answer ≡ not (allowed kind b.now)) → answer ≡ ends_badly kind bs
  unfolding said
  badly_found bs None answer e a = a ∙ ap said e ∙ sym (ends_badly-find bs)
  badly_found bs (Some b) answer e a = a ∙ ap said e ∙ sym (ends_badly-find bs)

  verdict_drop : (n at : ℕ) (bs : List ℕ) → verdict_after kind n at bs ≡ verdict_after kind 0 (at + n) (drop n bs)
  verdict_drop zero at bs = ap (λ k. verdict_after kind 0 k bs) (omega arith)
  verdict_drop (suc n) at [] = refl
  verdict_drop (suc n) at (b ∷ bs) = verdict_drop n (at + 1) bs ∙ ap (λ k. verdict_after kind 0 k (drop n bs)) (omega arith)

  -- the verdict on the bytes from at on
  abbrev pub verdict_from : List ℕ → ℕ → Result Unit Fault
  verdict_from s at = verdict_after kind 0 at (drop at s)

  verdict_cons : (bs : List ℕ) (at : ℕ) → 0 < length bs → verdict_after kind 0 at bs ≡ cond (eqb (letter_of kind bs).0 0) (Err (fault (reason_of kind bs) at)) (verdict_after kind 0 (at + 1 + (letter_of kind bs).1) (drop (suc (letter_of kind bs).1) bs))
  verdict_cons [] at h = absurd (omega arith)
  verdict_cons (b ∷ bs) at h =
      ap (λ v. cond (eqb (letter_of kind (b ∷ bs)).0 0) (Err (fault (reason_of kind (b ∷ bs)) at)) v) (verdict_drop (letter_of kind (b ∷ bs)).1 (at + 1) bs)

  pub verdict_more : (s : List ℕ) (at c next : ℕ) → at < length s → c ≡ (letter_of kind (drop at s)).0 → next ≡ at + 1 + (letter_of kind (drop at s)).1 → (c ≡ 0 → ⊥) → verdict_from s at ≡ verdict_from s next
  verdict_more s at c next h ec en some =
      verdict_cons (drop at s) at (omega (arith, length-drop at s)) ∙
      cond-false (eqb (letter_of kind (drop at s)).0 0) _ _ (ap (λ x. eqb x 0) (sym ec) ∙ ne_eqb c 0 some) ∙
      ap (verdict_after kind 0 (at + 1 + (letter_of kind (drop at s)).1)) (drop-drop (suc (letter_of kind (drop at s)).1) at s) ∙
      ap (λ k. verdict_after kind 0 (at + 1 + (letter_of kind (drop at s)).1) (drop k s)) (omega arith) ∙
      ap (verdict_from s) (sym en)

  spells_append : {us xs bs ys : List ℕ} → Spells kind us xs → Spells kind bs ys → Spells kind (us ++ bs) (xs ++ ys)
  spells_append nothing q = q
  spells_append {bs = bs} {ys = ys} (byte b us xs e p) q = byte b (us ++ bs) (xs ++ ys) e (spells_append p q)
  spells_append {bs = bs} {ys = ys} (less us xs p) q = less (us ++ bs) (xs ++ ys) (spells_append p q)
  spells_append {bs = bs} {ys = ys} (greater us xs p) q = greater (us ++ bs) (xs ++ ys) (spells_append p q)
  spells_append {bs = bs} {ys = ys} (ampersand us xs p) q = ampersand (us ++ bs) (xs ++ ys) (spells_append p q)
  spells_append {bs = bs} {ys = ys} (quote us xs p) q = quote (us ++ bs) (xs ++ ys) (spells_append p q)

  -- the bytes of the first character spell it
  Alone : List ℕ → ℕ × ℕ → Type 0
  Alone bs r = 0 < r.0 → Spells kind (take (suc r.1) bs) (r.0 ∷ [])

  itself_alone : (bs : List ℕ) → Alone bs (itself kind bs)
  unfolding Alone
  itself_alone [] = λ h. absurd (omega arith)
  itself_alone (b ∷ bs) = cond_both {A = ℕ × ℕ} (plain kind b) _ _ (Alone (b ∷ bs)) (λ e h. byte b [] [] e nothing) (λ _ h. absurd (omega arith))

  letter_alone : (bs : List ℕ) → Alone bs (letter_of kind bs)
  unfolding Alone
  letter_alone bs =
      by_letter kind bs (Alone bs)
      (λ e h. subst (λ t. Spells kind t (60 ∷ [])) ((bytes_eq-Decides (codes "&lt;") (take 4 bs)).0 e) (less [] [] nothing))
      (λ e h. subst (λ t. Spells kind t (62 ∷ [])) ((bytes_eq-Decides (codes "&gt;") (take 4 bs)).0 e) (greater [] [] nothing))
      (λ e h. subst (λ t. Spells kind t (38 ∷ [])) ((bytes_eq-Decides (codes "&amp;") (take 5 bs)).0 e) (ampersand [] [] nothing))
      (λ e h. subst (λ t. Spells kind t (34 ∷ [])) ((bytes_eq-Decides (codes "&quot;") (take 6 bs)).0 e) (quote [] [] nothing))
      (itself_alone bs)

  -- the bytes before at spell characters
  abbrev pub SpelledTo : List ℕ → ℕ → Type 0
  SpelledTo s at = Spells kind (take at s) (letters kind (take at s))

  pub spelled_more : (s : List ℕ) (at c next : ℕ) → c ≡ (letter_of kind (drop at s)).0 → next ≡ at + 1 + (letter_of kind (drop at s)).1 → (c ≡ 0 → ⊥) → SpelledTo s at → SpelledTo s next
  unfolding Alone
  spelled_more s at c next ec en some p =
      let m : ℕ = (letter_of kind (drop at s)).1 in
      let one = letter_alone (drop at s) (omega arith) in
      let both = spells_append p one in
      let k : at + suc m ≡ next = omega arith in
      let whole : take at s ++ take (suc m) (drop at s) ≡ take next s = sym (take-add at (suc m) s) ∙ ap (λ j. take j s) k in
      let q = subst (λ t. Spells kind t (letters kind (take at s) ++ (letter_of kind (drop at s)).0 ∷ [])) whole both in
      subst (Spells kind (take next s)) (sym (spelled_read kind q).0) q

  -- what is known of the character at a byte
  pub letter_parts : (s : List ℕ) (at : ℕ) (l : Letter) → Some l ≡ letter_at kind s at → (at < length s) × (l.glyph ≡ (letter_of kind (drop at s)).0) × (l.next ≡ at + 1 + (letter_of kind (drop at s)).1)
  letter_parts s at l e = (grind (arith, nat_tests), grind (arith, nat_tests), grind (arith, nat_tests))

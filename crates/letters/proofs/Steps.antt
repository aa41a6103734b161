-- How the characters go on from byte to byte.
use Rattle.std.proofs.Common.{◌≡◌, ℕ, zero, suc, ◌+◌, ◌<◌, ◌≤◌, true, List, [], ◌∷◌, length, take, drop, codes, refl, ap, ◌∙◌, arith, length-drop, length-take}
use Rattle.std.proofs.lemmas.Slice.Eq.{bytes_eq-Decides}
use Rattle.std.proofs.lemmas.List.{drop-drop, drop_all}
use Rattle.std.proofs.lemmas.Bool.{cond_both}
use Rattle.letters.specs.declared.Kind.{Kind}
use Rattle.letters.specs.Letters.{begins, plain, itself, letter_of, letters, letters_from, letters_after, Stepped}

-- what begins with p is no shorter
begun_fits : (p bs : List ℕ) → begins p bs ≡ true → length p ≤ length bs
begun_fits p bs e = omega (arith, ap length ((bytes_eq-Decides p (take (length p) bs)).0 e), length-take (length p) bs)

module _ (kind : Kind) where
  pub letters_drop : (n : ℕ) (bs : List ℕ) → letters_after kind n bs ≡ letters kind (drop n bs)
  letters_drop zero bs = refl
  letters_drop (suc n) [] = refl
  letters_drop (suc n) (b ∷ bs) = letters_drop n bs

  pub letters_cons : (bs : List ℕ) → 0 < length bs → letters kind bs ≡ (letter_of kind bs).0 ∷ letters kind (drop (suc (letter_of kind bs).1) bs)
  letters_cons [] h = absurd (omega arith)
  letters_cons (b ∷ bs) h = ap (λ t. (letter_of kind (b ∷ bs)).0 ∷ t) (letters_drop (letter_of kind (b ∷ bs)).1 bs)

  -- what holds of the four references and of a byte by itself holds of the first character
  pub by_letter : (bs : List ℕ) (P : ℕ × ℕ → Type 0) → (begins (codes "&lt;") bs ≡ true → P (60, 3)) → (begins (codes "&gt;") bs ≡ true → P (62, 3)) → (begins (codes "&amp;") bs ≡ true → P (38, 4)) → (begins (codes "&quot;") bs ≡ true → P (34, 5)) → P (itself kind bs) → P (letter_of kind bs)
  by_letter bs P l g a q i =
      cond_both {A = ℕ × ℕ} (begins (codes "&lt;") bs) _ _ P l (λ _.
      cond_both {A = ℕ × ℕ} (begins (codes "&gt;") bs) _ _ P g (λ _.
      cond_both {A = ℕ × ℕ} (begins (codes "&amp;") bs) _ _ P a (λ _.
      cond_both {A = ℕ × ℕ} (begins (codes "&quot;") bs) _ _ P q (λ _. i))))

  itself_fits : (bs : List ℕ) → 0 < length bs → (itself kind bs).1 + 1 ≤ length bs
  itself_fits [] h = absurd (omega arith)
  itself_fits (b ∷ bs) h = cond_both {A = ℕ × ℕ} (plain kind b) _ _ (λ v. v.1 + 1 ≤ length (b ∷ bs)) (λ _. omega arith) (λ _. omega arith)

  -- the whole character is there
  pub letter_fits : (bs : List ℕ) → 0 < length bs → (letter_of kind bs).1 + 1 ≤ length bs
  letter_fits bs h =
      by_letter bs (λ v. v.1 + 1 ≤ length bs) (begun_fits (codes "&lt;") bs) (begun_fits (codes "&gt;") bs) (begun_fits (codes "&amp;") bs) (begun_fits (codes "&quot;") bs) (itself_fits bs h)

  -- the character at a byte, and then those after its last byte
  letters_more : (s : List ℕ) (at : ℕ) → at < length s → letters kind (drop at s) ≡ (letter_of kind (drop at s)).0 ∷ letters kind (drop (at + 1 + (letter_of kind (drop at s)).1) s)
  letters_more s at h =
      letters_cons (drop at s) (omega (arith, length-drop at s)) ∙
      ap (λ t. (letter_of kind (drop at s)).0 ∷ letters kind t) (drop-drop (suc (letter_of kind (drop at s)).1) at s ∙ ap (λ n. drop n s) (omega arith))

  pub letters_none : (s : List ℕ) (at : ℕ) → length s ≤ at → letters_from kind s at ≡ []
  letters_none s at h = ap (letters kind) (drop_all at s h)

  letter_inside : (s : List ℕ) (at : ℕ) → at < length s → at + 1 + (letter_of kind (drop at s)).1 ≤ length s
  letter_inside s at h = omega (arith, letter_fits (drop at s) (omega (arith, length-drop at s)), length-drop at s)

  -- of a result r that is the character at a byte
  pub stepped : (s : List ℕ) (at : ℕ) (r : ℕ × ℕ) → at < length s → r ≡ letter_of kind (drop at s) → Stepped kind s at r.0 (at + 1 + r.1)
  stepped s at r h e =
      let c : r.0 ≡ (letter_of kind (drop at s)).0 = ap (λ (p : ℕ × ℕ). p.0) e in
      let m : r.1 ≡ (letter_of kind (drop at s)).1 = ap (λ (p : ℕ × ℕ). p.1) e in
      record {
        low = omega arith;
        high = omega (arith, letter_inside s at h);
        step = letters_more s at h ∙ (rw (← c, ← m) refl);
      }

-- The characters of bytes are those that the bytes spell.
use Rattle.std.proofs.Common.{◌≡◌, ℕ, zero, suc, ◌<◌, ◌≤◌, true, false, ◌&&◌, eqb, ltb, List, [], ◌∷◌, ◌++◌, length, take, drop, codes, sym, refl, ap, ◌∙◌, subst, arith, length-drop}
use Rattle.std.proofs.lemmas.Slice.Eq.{bytes_eq-Decides}
use Rattle.std.proofs.lemmas.List.{take-append-drop}
use Rattle.std.proofs.lemmas.Bool.{cond_both, and_parts, ltb-true, lt-ltb}
use Rattle.std.proofs.lemmas.Bool.Decides.{nat_tests}
use Rattle.letters.specs.declared.Kind.{Kind}
use Rattle.letters.specs.declared.Kind.TheVariants.{Text, Block}
use Rattle.letters.specs.Letters.{begins, plain, itself, letter_of, letters, letters_after, sound}
use Rattle.letters.specs.Spelling.{Spells, nothing, byte, less, greater, ampersand, quote}
use Rattle.letters.proofs.Steps.{letters_cons, by_letter}

plain_apart : (kind : Kind) (b : ℕ) → plain kind b ≡ true → eqb 38 b ≡ false
plain_apart Text b e = grind (arith, nat_tests)
plain_apart Block b e = grind (arith, nat_tests)

plain_some : (kind : Kind) (b : ℕ) → plain kind b ≡ true → ltb 0 b ≡ true
plain_some Text b e = lt-ltb 0 b (grind (arith, nat_tests))
plain_some Block b e = lt-ltb 0 b (grind (arith, nat_tests))

begun : (p bs : List ℕ) → begins p bs ≡ true → p ++ drop (length p) bs ≡ bs
begun p bs e = ap (λ t. t ++ drop (length p) bs) ((bytes_eq-Decides p (take (length p) bs)).0 e) ∙ take-append-drop (length p) bs

module _ (kind : Kind) where
  plain_alone : (b : ℕ) (bs : List ℕ) → plain kind b ≡ true → letter_of kind (b ∷ bs) ≡ (b, 0)
  plain_alone b bs e = let apart = plain_apart kind b e in simp (apart, e)

  pub letters_plain : (b : ℕ) (bs : List ℕ) → plain kind b ≡ true → letters kind (b ∷ bs) ≡ b ∷ letters kind bs
  letters_plain b bs e = ap (λ (r : ℕ × ℕ). r.0 ∷ letters_after kind r.1 bs) (plain_alone b bs e)

  -- what is spelled is what is read
  pub spelled_read : {bs cs : List ℕ} → Spells kind bs cs → (letters kind bs ≡ cs) × (sound cs ≡ true)
  spelled_read nothing = (refl, refl)
  spelled_read (byte b bs cs e p) =
      let q = spelled_read p in
      (letters_plain b bs e ∙ ap (λ t. b ∷ t) q.0, ap (λ t. t && sound cs) (plain_some kind b e) ∙ q.1)
  spelled_read (less bs cs p) = let q = spelled_read p in (ap (λ t. 60 ∷ t) q.0, q.1)
  spelled_read (greater bs cs p) = let q = spelled_read p in (ap (λ t. 62 ∷ t) q.0, q.1)
  spelled_read (ampersand bs cs p) = let q = spelled_read p in (ap (λ t. 38 ∷ t) q.0, q.1)
  spelled_read (quote bs cs p) = let q = spelled_read p in (ap (λ t. 34 ∷ t) q.0, q.1)

  -- the first character is spelled, if there is one, and so are those after it
  Next : List ℕ → ℕ × ℕ → Type 0
  Next bs r = (cs : List ℕ) → 0 < r.0 → Spells kind (drop (suc r.1) bs) cs → Spells kind bs (r.0 ∷ cs)

  next_itself : (bs : List ℕ) → Next bs (itself kind bs)
  unfolding Next
  next_itself [] = λ cs h p. absurd (omega arith)
  next_itself (b ∷ bs) = cond_both {A = ℕ × ℕ} (plain kind b) _ _ (Next (b ∷ bs)) (λ e cs h p. byte b bs cs e p) (λ _ cs h p. absurd (omega arith))

  next_spelled : (bs : List ℕ) → Next bs (letter_of kind bs)
  unfolding Next
  next_spelled bs =
      by_letter kind bs (Next bs)
      (λ e cs h p. subst (λ t. Spells kind t (60 ∷ cs)) (begun (codes "&lt;") bs e) (less (drop 4 bs) cs p))
      (λ e cs h p. subst (λ t. Spells kind t (62 ∷ cs)) (begun (codes "&gt;") bs e) (greater (drop 4 bs) cs p))
      (λ e cs h p. subst (λ t. Spells kind t (38 ∷ cs)) (begun (codes "&amp;") bs e) (ampersand (drop 5 bs) cs p))
      (λ e cs h p. subst (λ t. Spells kind t (34 ∷ cs)) (begun (codes "&quot;") bs e) (quote (drop 6 bs) cs p))
      (next_itself bs)

  by_length : (n : ℕ) (bs : List ℕ) → length bs ≤ n → sound (letters kind bs) ≡ true → Spells kind bs (letters kind bs)
  unfolding Next
  by_length n [] h e = nothing
  by_length zero (b ∷ bs) h e = absurd (omega arith)
  by_length (suc n) (b ∷ bs) h e =
      let rest : List ℕ = drop (suc (letter_of kind (b ∷ bs)).1) (b ∷ bs) in
      let c = letters_cons kind (b ∷ bs) (omega arith) in
      let p = and_parts (ltb 0 (letter_of kind (b ∷ bs)).0) (sound (letters kind rest)) (sym (ap sound c) ∙ e) in
      let short : length rest ≤ n = omega (arith, length-drop (suc (letter_of kind (b ∷ bs)).1) (b ∷ bs)) in
      subst (Spells kind (b ∷ bs)) (sym c) (next_spelled (b ∷ bs) (letters kind rest) (ltb-true 0 (letter_of kind (b ∷ bs)).0 p.0) (by_length n rest short p.1))

  -- what is read is what is spelled
  pub read_spelled : (bs : List ℕ) → sound (letters kind bs) ≡ true → Spells kind bs (letters kind bs)
  read_spelled bs e = by_length (length bs) bs (omega arith) e

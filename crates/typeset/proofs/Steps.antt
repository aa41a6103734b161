-- How words are found from byte to byte.
use Rattle.std.proofs.Common.{◌≡◌, ℕ, zero, suc, ◌+◌, ◌<◌, ◌≤◌, Bool, true, false, not, ◌&&◌, eqb, ltb, List, [], ◌∷◌, ◌++◌, length, take, drop, sym, refl, ap, ◌∙◌, add-one, arith, length-take}
use Rattle.std.proofs.lemmas.Bool.{cond-false}
use Rattle.std.proofs.lemmas.Bool.Decides.{nat_tests}
use Rattle.classes.specs.Classes.{white}
use Rattle.letters.specs.Letters.{letters_from, sound}
use Rattle.letters.specs.declared.Kind.{Kind}
use Rattle.letters.specs.declared.Kind.TheVariants.{Text}
use Rattle.letters.proofs.Steps.{letters_none}
use Rattle.typeset.specs.Words.{closed, parted, words, words_from, Found}

pub ended : (s : List ℕ) (i : ℕ) → length s ≤ i → words_from s i ≡ []
ended s i h = ap words (letters_none Text s i h)

pub front_suc : (n : ℕ) (xs : List ℕ) (c : ℕ) (rest : List ℕ) → drop n xs ≡ c ∷ rest → (suc n ≤ length xs) × (drop (suc n) xs ≡ rest) × (take (suc n) xs ≡ take n xs ++ c ∷ [])
front_suc zero [] c rest e = let z : ◌≡◌ {A = ℕ} 0 1 = cc in absurd (omega arith)
front_suc zero (x ∷ xs) c rest e = (omega arith, cc, cc)
front_suc (suc n) [] c rest e = let z : ◌≡◌ {A = ℕ} 0 1 = cc in absurd (omega arith)
front_suc (suc n) (x ∷ xs) c rest e = let p = front_suc n xs c rest e in (omega (arith, p.0), p.1, ap (λ t. x ∷ t) p.2)

pub front_more : (n : ℕ) (xs : List ℕ) (c : ℕ) (rest : List ℕ) → drop n xs ≡ c ∷ rest → (n + 1 ≤ length xs) × (drop (n + 1) xs ≡ rest) × (take (n + 1) xs ≡ take n xs ++ c ∷ [])
front_more n xs c rest e = rw add-one (front_suc n xs c rest e)

pub parted_white : (v : List ℕ) (c : ℕ) (cs : List ℕ) → white c ≡ true → parted v (c ∷ cs) ≡ closed v (words (c ∷ cs))
parted_white v c cs e = simp e

pub parted_black : (v : List ℕ) (c : ℕ) (cs : List ℕ) → white c ≡ false → parted v (c ∷ cs) ≡ parted (v ++ c ∷ []) cs
parted_black v c cs e = cond-false (white c) _ _ e

-- the characters all, of which the first n were passed, and the words that they make with what is left
pub record Running (s all : List ℕ) (i n : ℕ) : Type 0 where
  pub wide : n ≤ length all
  pub left : drop n all ≡ letters_from Text s i
  pub made : parted (take n all) (letters_from Text s i) ≡ words all

pub run_more : (s all : List ℕ) (i n c next : ℕ) → letters_from Text s i ≡ c ∷ letters_from Text s next → white c ≡ false → Running s all i n → Running s all next (n + 1)
run_more s all i n c next step black r =
    let f = front_more n all c (letters_from Text s next) (r.left ∙ step) in
    record {
      wide = f.0;
      left = f.1;
      made =
          ap (λ v. parted v (letters_from Text s next)) f.2 ∙ sym (parted_black (take n all) c (letters_from Text s next) black) ∙ ap (parted (take n all)) (sym step) ∙ r.made;
    }

pub closed_some : (v : List ℕ) (ws : List (List ℕ)) → 0 < length v → closed v ws ≡ v ∷ ws
closed_some [] ws h = absurd (omega arith)
closed_some (c ∷ v) ws h = refl

pub found : (s : List ℕ) (at from to n : ℕ) → at ≤ from → words_from s at ≡ words_from s from → from + n ≤ to → to ≤ length s → n ≤ length (letters_from Text s from) → words_from s from ≡ closed (take n (letters_from Text s from)) (words_from s to) → 0 < n → Found s at from to n
found s at from to n low same long high wide all some =
    record {
      some = some;
      low = omega arith;
      high = high;
      wide = wide;
      first = same ∙ all ∙ closed_some (take n (letters_from Text s from)) (words_from s to) (omega (arith, length-take n (letters_from Text s from)));
    }

pub and_shift : (a b c : Bool) → a && (b && c) ≡ (a && b) && c
and_shift true b c = refl
and_shift false b c = refl

pub and_true : (x y : Bool) → y ≡ true → (x && y) ≡ x
and_true true y e = e
and_true false y e = refl

pub sound_more : (kind : Kind) (s all : List ℕ) (i c next : ℕ) (ok : Bool) → letters_from kind s i ≡ c ∷ letters_from kind s next → sound all ≡ (ok && sound (letters_from kind s i)) → sound all ≡ ((ok && not (eqb c 0)) && sound (letters_from kind s next))
sound_more kind s all i c next ok step e =
    let same : ltb 0 c ≡ not (eqb c 0) = grind (arith, nat_tests) in
    e ∙ ap (λ t. ok && sound t) step ∙ ap (λ b. ok && (b && sound (letters_from kind s next))) same ∙ and_shift ok (not (eqb c 0)) (sound (letters_from kind s next))

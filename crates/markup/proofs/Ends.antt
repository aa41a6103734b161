-- Where tags end.
use Rattle.std.proofs.Common.{◌≡◌, ℕ, suc, ◌+◌, ◌<◌, ◌≤◌, Bool, true, false, cond, ◌&&◌, eqb, List, ◌∷◌, length, get_or, take, drop, Some, None, sym, refl, ap, ◌∙◌, arith}
use Rattle.std.proofs.lemmas.List.{at_drop_more, at_drop_all}
use Rattle.std.proofs.lemmas.Bool.{cond-true, cond-false}
use Rattle.std.proofs.lemmas.Bool.Decides.{nat_tests}
use Rattle.classes.specs.Classes.{class_of}
use Rattle.classes.specs.declared.Class.{Class}
use Rattle.classes.specs.declared.Class.TheVariants.{Greater, Forbidden}
use Rattle.letters.specs.declared.Kind.TheVariants.{Text}
use Rattle.letters.specs.Letters.{allowed}
use Rattle.markup.specs.Tags.{before, all_allowed}
use Rattle.markup.specs.Views.{closed}

-- all bytes before the first ">" are allowed
abbrev pub clean : List ℕ → Bool
clean xs = all_allowed (take (before xs) xs)

-- what the class of a byte tells of it
ends : (b : ℕ) → Greater ≡ class_of b → eqb b 62 ≡ true
ends b e = grind (arith, nat_tests)

spoils : (b : ℕ) → Forbidden ≡ class_of b → (eqb b 62 ≡ false) × (allowed Text b ≡ false)
spoils b e = (grind (arith, nat_tests), grind (arith, nat_tests))

goes : (b : ℕ) (c : Class) → c ≡ class_of b → (c ≡ Greater → ⊥) → (c ≡ Forbidden → ⊥) → (eqb b 62 ≡ false) × (allowed Text b ≡ true)
goes b c e f g = (grind (arith, nat_tests), grind (arith, nat_tests))

clean_cons : (b : ℕ) (bs : List ℕ) → clean (b ∷ bs) ≡ cond (eqb b 62) true (allowed Text b && clean bs)
clean_cons b bs = grind (arith, nat_tests)

-- of the bytes from i on: how many stand before the first ">", and whether all of these are allowed
abbrev pub Ending : List ℕ → ℕ → ℕ → Bool → Type 0
Ending xs i n t = (before (drop i xs) ≡ n) × (clean (drop i xs) ≡ t)

module _ (xs : List ℕ) (i : ℕ) (h : i < length xs) where
  ending_turn : (e t : Bool) → eqb (get_or xs i 0) 62 ≡ e → allowed Text (get_or xs i 0) ≡ t → Ending xs i (cond e 0 (suc (before (drop (i + 1) xs)))) (cond e true (t && clean (drop (i + 1) xs)))
  ending_turn e t p q =
      (at_drop_more before xs i 0 h ∙ ap (λ z. cond z 0 (suc (before (drop (i + 1) xs)))) p, at_drop_more clean xs i 0 h ∙ clean_cons (get_or xs i 0) (drop (i + 1) xs) ∙ rw (p, q) refl)

  pub at_greater : Greater ≡ class_of (get_or xs i 0) → Ending xs i 0 true
  at_greater e = ending_turn true (allowed Text (get_or xs i 0)) (ends (get_or xs i 0) e) refl

  pub at_forbidden : Forbidden ≡ class_of (get_or xs i 0) → clean (drop i xs) ≡ false
  at_forbidden e = let p = spoils (get_or xs i 0) e in (ending_turn false false p.0 p.1).1

  pub at_other : (c : Class) → c ≡ class_of (get_or xs i 0) → (c ≡ Greater → ⊥) → (c ≡ Forbidden → ⊥) → Ending xs i (suc (before (drop (i + 1) xs))) (clean (drop (i + 1) xs))
  at_other c e f g = let p = goes (get_or xs i 0) c e f g in ending_turn false true p.0 p.1

pub at_end : (xs : List ℕ) (i : ℕ) → length xs ≤ i → Ending xs i 0 true
at_end xs i h = (at_drop_all before xs i h, at_drop_all clean xs i h)

pub is_closed : (xs : List ℕ) (n : ℕ) → n ≡ before xs → clean xs ≡ true → Some n ≡ closed xs
is_closed xs n e f = ap (λ z. Some z) e ∙ sym (cond-true (clean xs) (Some (before xs)) None f)

pub not_closed : (xs : List ℕ) → clean xs ≡ false → None ≡ closed xs
not_closed xs f = sym (cond-false (clean xs) (Some (before xs)) None f)

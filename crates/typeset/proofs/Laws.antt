-- The lines hold the words, whole and in order, and each is as full as can be.
use Rattle.std.proofs.Common.{◌≡◌, ℕ, zero, suc, ◌+◌, ◌-◌, ◌<◌, ◌≤◌, leb, List, [], ◌∷◌, ◌++◌, length, get_or, sym, refl, ap, ◌∙◌, zero-add, add-one, arith, length-append}
use Rattle.std.specs.List.{flat_map}
use Rattle.std.proofs.lemmas.Bool.{cond_both, leb-true, leb-false}
use Rattle.typeset.specs.Words.{longest}
use Rattle.typeset.specs.Lines.{spaced, places, onto, filled, lines}
use Rattle.typeset.specs.Filled.{Filled}
use Rattle.typeset.proofs.Filling.{filled_some, filled_fits, filled_breaks}

abbrev all_of : List (List (List ℕ)) → List (List ℕ)
all_of ls = flat_map (λ (l : List (List ℕ)). l) ls

all_onto : (v : List ℕ) (ls : List (List (List ℕ))) → all_of (onto v ls) ≡ v ∷ all_of ls
all_onto v [] = refl
all_onto v (l ∷ ls) = refl

pub all_filled : (w t : ℕ) (ws : List (List ℕ)) → all_of (filled w t ws) ≡ ws
all_filled w t [] = refl
all_filled w t (v ∷ vs) =
    cond_both (leb (t + length v) w) _ _ (λ ls. all_of ls ≡ v ∷ vs)
    (λ _. all_onto v (filled w (t + (length v + 1)) vs) ∙ ap (λ ws. v ∷ ws) (all_filled w (t + (length v + 1)) vs))
    (λ _. all_onto v (filled w (length v + 1) vs) ∙ ap (λ ws. v ∷ ws) (all_filled w (length v + 1) vs))

pub length_spaced : (l : List (List ℕ)) → length (spaced l) ≡ places l - 1
length_spaced [] = refl
length_spaced (v ∷ []) = omega arith
length_spaced (v ∷ (u ∷ us)) = omega (arith, length-append v (32 ∷ spaced (u ∷ us)), length_spaced (u ∷ us))

-- lines of which the first has t places taken before it
abbrev Packed : ℕ → ℕ → List (List (List ℕ)) → Type 0
Packed w t [] = ⊥
Packed w t (l ∷ []) = t + places l ≤ w + 1
Packed w t (l ∷ (m ∷ ms)) = (t + places l ≤ w + 1) × (w < t + places l + length (get_or m 0 [])) × (0 < length m) × Packed w 0 (m ∷ ms)

packed_onto : (w t : ℕ) (v : List ℕ) (ls : List (List (List ℕ))) → Packed w (t + (length v + 1)) ls → Packed w t (onto v ls)
packed_onto w t v [] p = absurd p
packed_onto w t v (l ∷ []) p = omega arith
packed_onto w t v (l ∷ (m ∷ ms)) p = (omega (arith, p.0), omega (arith, p.1), p.2, p.3)

packed_break : (w t : ℕ) (v : List ℕ) (ls : List (List (List ℕ))) → t ≤ w + 1 → w < t + length v → Packed w (length v + 1) ls → Packed w t ([] ∷ onto v ls)
packed_break w t v [] h b p = absurd p
packed_break w t v (l ∷ ls) h b p =
    (omega arith, omega arith, omega arith, packed_onto w 0 v (l ∷ ls) (rw zero-add p))

pub packed : (w t : ℕ) (ws : List (List ℕ)) → t ≤ w + 1 → longest ws ≤ w → Packed w t (filled w t ws)
packed w t [] h s = omega arith
packed w t (v ∷ vs) h s =
    cond_both (leb (t + length v) w) _ _ (λ ls. Packed w t ls)
    (λ e. packed_onto w t v (filled w (t + (length v + 1)) vs) (packed w (t + (length v + 1)) vs (omega (arith, leb-true (t + length v) w e)) (omega arith)))
    (λ e. packed_break w t v (filled w (length v + 1) vs) h (leb-false (t + length v) w e) (packed w (length v + 1) vs (omega arith) (omega arith)))

packed_within : (w : ℕ) (ls : List (List (List ℕ))) → Packed w 0 ls → (r : ℕ) → r < length ls → places (get_or ls r []) ≤ w + 1
packed_within w [] p r h = absurd p
packed_within w (l ∷ []) p zero h = omega arith
packed_within w (l ∷ []) p (suc r) h = absurd (omega arith)
packed_within w (l ∷ (m ∷ ms)) p zero h = omega (arith, p.0)
packed_within w (l ∷ (m ∷ ms)) p (suc r) h = packed_within w (m ∷ ms) p.3 r (omega arith)

packed_greedy : (w : ℕ) (ls : List (List (List ℕ))) → Packed w 0 ls → (r : ℕ) → suc r < length ls → w < places (get_or ls r []) + length (get_or (get_or ls (suc r) []) 0 [])
packed_greedy w [] p r h = absurd p
packed_greedy w (l ∷ []) p r h = absurd (omega arith)
packed_greedy w (l ∷ (m ∷ ms)) p zero h = omega (arith, p.1)
packed_greedy w (l ∷ (m ∷ ms)) p (suc r) h = packed_greedy w (m ∷ ms) p.3 r (omega arith)

packed_some : (w : ℕ) (ls : List (List (List ℕ))) → Packed w 0 ls → 0 < length (get_or ls 0 []) → (r : ℕ) → r < length ls → 0 < length (get_or ls r [])
packed_some w [] p f r h = absurd p
packed_some w (l ∷ []) p f zero h = f
packed_some w (l ∷ []) p f (suc r) h = absurd (omega arith)
packed_some w (l ∷ (m ∷ ms)) p f zero h = f
packed_some w (l ∷ (m ∷ ms)) p f (suc r) h = packed_some w (m ∷ ms) p.3 p.2 r (omega arith)

first_onto : (v : List ℕ) (ls : List (List (List ℕ))) → 0 < length (get_or (onto v ls) 0 [])
first_onto v [] = omega arith
first_onto v (l ∷ ls) = omega arith

first_some : (w : ℕ) (ws : List (List ℕ)) → longest ws ≤ w → 0 < length ws → 0 < length (get_or (lines w ws) 0 [])
first_some w [] s h = absurd (omega arith)
first_some w (v ∷ vs) s h =
    cond_both (leb (0 + length v) w) _ _ (λ ls. 0 < length (get_or ls 0 []))
    (λ _. first_onto v (filled w (0 + (length v + 1)) vs))
    (λ e. absurd (omega (arith, leb-false (0 + length v) w e)))

-- at every width from the longest word on, the lines are the words set in lines
pub nothing_lost : (ws : List (List ℕ)) (w : ℕ) → longest ws ≤ w → Filled w ws (lines w ws)
nothing_lost ws w h =
    let p = packed w 0 ws (omega arith) h in
    record {
      one = filled_some w 0 ws;
      all = all_filled w 0 ws;
      within = λ r k. omega (arith, packed_within w (lines w ws) p r k, length_spaced (get_or (lines w ws) r []));
      some = λ m r k. packed_some w (lines w ws) p (first_some w ws h m) r k;
      greedy = λ r k. rw add-one (omega (arith, packed_greedy w (lines w ws) p r (omega arith), length_spaced (get_or (lines w ws) r [])));
    }

add_zero' : (t : ℕ) → t ≡ t + 0
add_zero' t = omega arith

shift : (a b c : ℕ) → (a + b) + c ≡ a + (b + c)
shift a b c = omega arith

fits_first : (w : ℕ) (v : List ℕ) (m : List (List ℕ)) (ms : List (List (List ℕ))) → Packed w 0 ((v ∷ m) ∷ ms) → 0 + length v ≤ w
fits_first w v m [] p = omega arith
fits_first w v m (l ∷ ls) p = omega (arith, p.0)

-- a line that fits is taken whole, and then what is left makes the rest
first_line : (w t : ℕ) (l rest : List (List ℕ)) (ls : List (List (List ℕ))) → t + places l ≤ w + 1 → filled w (t + places l) rest ≡ [] ∷ ls → filled w t (l ++ rest) ≡ l ∷ ls
first_line w t [] rest ls h e = ap (λ k. filled w k rest) (add_zero' t) ∙ e
first_line w t (v ∷ l) rest ls h e =
    filled_fits w t v (l ++ rest) (omega arith) ∙
    ap (onto v) (first_line w (t + (length v + 1)) l rest ls (omega arith) (ap (λ k. filled w k rest) (shift t (length v + 1) (places l)) ∙ e))

only : (w t : ℕ) (l : List (List ℕ)) (ls : List (List (List ℕ))) → Packed w t (l ∷ ls) → filled w t (all_of (l ∷ ls)) ≡ l ∷ ls
only w t l [] p = first_line w t l [] [] p refl
only w t l ([] ∷ ms) p = absurd (omega (arith, p.2))
only w t l ((v ∷ m) ∷ ms) p =
    let rest : List (List ℕ) = m ++ all_of ms in
    let fits : 0 + length v ≤ w = fits_first w v m ms p.3 in
    let more = sym (filled_fits w 0 v rest fits) ∙ only w 0 (v ∷ m) ms p.3 in
    let same : onto v (filled w (length v + 1) rest) ≡ (v ∷ m) ∷ ms = ap (λ k. onto v (filled w k rest)) (sym (zero-add (length v + 1))) ∙ more in
    first_line w t l (v ∷ rest) ((v ∷ m) ∷ ms) p.0 (filled_breaks w (t + places l) v rest p.1 ∙ ap (λ x. [] ∷ x) same)

places_some : (l : List (List ℕ)) → 0 < length l → 0 < places l
places_some [] h = absurd (omega arith)
places_some (v ∷ l) h = omega arith

abbrev Within : ℕ → List (List (List ℕ)) → Type 0
Within w ls = (r : ℕ) → r < length ls → length (spaced (get_or ls r [])) ≤ w

abbrev Some : List (List (List ℕ)) → Type 0
Some ls = (r : ℕ) → r < length ls → 0 < length (get_or ls r [])

abbrev Greedy : ℕ → List (List (List ℕ)) → Type 0
Greedy w ls = (r : ℕ) → suc r < length ls → w < length (spaced (get_or ls r [])) + (1 + length (get_or (get_or ls (suc r) []) 0 []))

packs : (w : ℕ) (l : List (List ℕ)) (ls : List (List (List ℕ))) → Within w (l ∷ ls) → Some (l ∷ ls) → Greedy w (l ∷ ls) → Packed w 0 (l ∷ ls)
packs w l [] a b c = omega (arith, a 0 (omega arith), length_spaced l)
packs w l (m ∷ ms) a b c = (
  omega (arith, a 0 (omega arith), length_spaced l),
  omega (arith, c 0 (omega arith), length_spaced l, places_some l (b 0 (omega arith))),
  b 1 (omega arith),
  packs w m ms (λ r h. a (suc r) (omega arith)) (λ r h. b (suc r) (omega arith)) (λ r h. c (suc r) (omega arith)),
)

by_packed : (w : ℕ) (ws l : List (List ℕ)) (ls : List (List (List ℕ))) → Filled w ws (l ∷ ls) → 0 < length ws → l ∷ ls ≡ lines w ws
by_packed w ws l ls f h =
    sym (only w 0 l ls (packs w l ls f.within (f.some h) (λ r k. rw add-one at (f.greedy r (omega arith))))) ∙ ap (filled w 0) f.all

-- and no other lines are
pub only_so : (ws : List (List ℕ)) (w : ℕ) (ls : List (List (List ℕ))) → 1 ≤ w → Filled w ws ls → ls ≡ lines w ws
only_so ws w [] pos f = absurd (omega (arith, f.one))
only_so ws w (l ∷ []) pos f = sym (only w 0 l [] (omega (arith, f.within 0 (omega arith), length_spaced l))) ∙ ap (filled w 0) f.all
only_so ws w ([] ∷ ([] ∷ ms)) pos f = absurd (omega (arith, f.greedy 0 (omega arith)))
only_so ws w ([] ∷ ((v ∷ m) ∷ ms)) pos f = by_packed w ws [] ((v ∷ m) ∷ ms) f (omega (arith, ap length f.all))
only_so ws w ((v ∷ l) ∷ (m ∷ ms)) pos f = by_packed w ws (v ∷ l) (m ∷ ms) f (omega (arith, ap length f.all))

-- How the lines of a block are found from byte to byte, and that they are what the bytes spell.
use Rattle.std.proofs.Common.{◌≡◌, ℕ, zero, suc, ◌+◌, ◌<◌, ◌≤◌, max, Bool, true, false, cond, eqb, List, [], ◌∷◌, ◌++◌, length, get_or, drop, codes, sym, refl, ap, ◌∙◌, subst, arith}
use Rattle.std.specs.List.{AllZip, AllByRecursion}
use Rattle.std.proofs.lemmas.Bool.{cond-false, cond_both, eqb-true}
use Rattle.letters.specs.Letters.{letters_from, plain}
use Rattle.letters.specs.Spelling.{Spells, nothing, byte, less, greater, ampersand, quote}
use Rattle.letters.specs.declared.Kind.TheVariants.{Block}
use Rattle.letters.proofs.Steps.{letters_none}
use Rattle.typeset.specs.Words.{longest}
use Rattle.typeset.specs.Lines.{onto}
use Rattle.typeset.specs.Rows.{rows, rows_from, unlined, Lined}
use Rattle.typeset.proofs.Onto.{onto_some}

pub rows_some : (cs : List ℕ) → 0 < length (rows cs)
rows_some [] = omega arith
rows_some (c ∷ cs) = cond_both (eqb c 10) _ _ (λ ls. 0 < length ls) (λ _. omega arith) (λ _. onto_some c (rows cs))

pub rows_break : (s : List ℕ) (i c next : ℕ) → letters_from Block s i ≡ c ∷ letters_from Block s next → c ≡ 10 → rows_from s i ≡ [] ∷ rows_from s next
rows_break s i c next step e = ap rows step ∙ ap (λ d. rows (d ∷ letters_from Block s next)) e

pub rows_keep : (s : List ℕ) (i c next : ℕ) → letters_from Block s i ≡ c ∷ letters_from Block s next → eqb c 10 ≡ false → rows_from s i ≡ onto c (rows_from s next)
rows_keep s i c next step e = ap rows step ∙ cond-false (eqb c 10) _ _ e

pub rows_end : (s : List ℕ) (i : ℕ) → length s ≤ i → rows_from s i ≡ [] ∷ []
rows_end s i h = ap rows (letters_none Block s i h)

-- the longest of lines of which the first has t characters before it
abbrev pub longest_after : ℕ → List (List ℕ) → ℕ
longest_after t [] = t
longest_after t (l ∷ ls) = max (t + length l) (longest ls)

pub longest_whole : (ls : List (List ℕ)) → longest_after 0 ls ≡ longest ls
longest_whole [] = refl
longest_whole (l ∷ ls) = omega arith

pub longest_onto : (t c : ℕ) (ls : List (List ℕ)) → longest_after t (onto c ls) ≡ longest_after (t + 1) ls
longest_onto t c [] = omega arith
longest_onto t c (l ∷ ls) = omega arith

pub longest_drop : (r : ℕ) (ls : List (List ℕ)) → longest (drop r ls) ≤ longest ls
longest_drop zero ls = omega arith
longest_drop (suc r) [] = omega arith
longest_drop (suc r) (l ∷ ls) = omega (arith, longest_drop r ls)

pub longest_at : (r : ℕ) (ls : List (List ℕ)) → length (get_or ls r []) ≤ longest ls
longest_at r [] = omega arith
longest_at zero (l ∷ ls) = omega arith
longest_at (suc r) (l ∷ ls) = omega (arith, longest_at r ls)

-- put together again, the lines are what they were made from
unlined_onto : (c : ℕ) (ls : List (List ℕ)) → unlined (onto c ls) ≡ c ∷ unlined ls
unlined_onto c [] = refl
unlined_onto c (l ∷ []) = refl
unlined_onto c (l ∷ (m ∷ ms)) = refl

unlined_break : (ls : List (List ℕ)) → 0 < length ls → unlined ([] ∷ ls) ≡ 10 ∷ unlined ls
unlined_break [] h = absurd (omega arith)
unlined_break (l ∷ ls) h = refl

unlined_rows : (cs : List ℕ) → unlined (rows cs) ≡ cs
unlined_rows [] = refl
unlined_rows (c ∷ cs) =
    cond_both (eqb c 10) _ _ (λ ls. unlined ls ≡ c ∷ cs)
    (λ e. unlined_break (rows cs) (rows_some cs) ∙ ap (λ t. 10 ∷ t) (unlined_rows cs) ∙ ap (λ d. d ∷ cs) (sym (eqb-true c 10 e)))
    (λ _. unlined_onto c (rows cs) ∙ ap (λ t. c ∷ t) (unlined_rows cs))

each_onto : (Q : ℕ → Type 0) (c : ℕ) (ls : List (List ℕ)) → Q c → AllByRecursion (AllByRecursion Q) ls → AllByRecursion (AllByRecursion Q) (onto c ls)
each_onto Q c [] q a = ((q, tt), tt)
each_onto Q c (l ∷ ls) q a = ((q, a.0), a.1)

-- what holds of each character but newline holds of each character of the lines
pub each_row : (Q : ℕ → Type 0) (cs : List ℕ) → AllByRecursion (λ c. eqb c 10 ≡ false → Q c) cs → AllByRecursion (AllByRecursion Q) (rows cs)
each_row Q [] a = (tt, tt)
each_row Q (c ∷ cs) a =
    cond_both (eqb c 10) _ _ (λ ls. AllByRecursion (AllByRecursion Q) ls)
    (λ _. (tt, each_row Q cs a.1))
    (λ e. each_onto Q c (rows cs) (a.0 e) (each_row Q cs a.1))

itself_all : (cs : List ℕ) → AllByRecursion (λ c. eqb c 10 ≡ false → eqb c 10 ≡ false) cs
itself_all [] = tt
itself_all (c ∷ cs) = ((λ e. e), itself_all cs)

pub lined : (cs : List ℕ) → Lined cs (rows cs)
lined cs = record { one = rows_some cs; all = unlined_rows cs; parted = each_row (λ c. eqb c 10 ≡ false) cs (itself_all cs) }

-- v at the front of the first line, character by character
abbrev fronted : List ℕ → List (List ℕ) → List (List ℕ)
fronted [] ls = ls
fronted (c ∷ v) ls = onto c (fronted v ls)

fronted_some : (v l : List ℕ) (ls : List (List ℕ)) → fronted v (l ∷ ls) ≡ (v ++ l) ∷ ls
fronted_some [] l ls = refl
fronted_some (c ∷ v) l ls = ap (onto c) (fronted_some v l ls)

-- what spells one character more stands at the front of the first line
fronted_spells : (v : List ℕ) (c : ℕ) → ((x y : List ℕ) → Spells Block x y → Spells Block (v ++ x) (c ∷ y)) → (xs ys : List (List ℕ)) → 0 < length xs → AllZip (Spells Block) xs ys → AllZip (Spells Block) (fronted v xs) (onto c ys)
fronted_spells v c f [] ys h p = absurd (omega arith)
fronted_spells v c f (x ∷ xs) [] h p = absurd p
fronted_spells v c f (x ∷ xs) (y ∷ ys) h p =
    subst (λ ls. AllZip (Spells Block) ls (onto c (y ∷ ys))) (sym (fronted_some v x xs)) (f x y p.0, p.1)

byte_spells : (t : Bool) (b : ℕ) → plain Block b ≡ true → (xs ys : List (List ℕ)) → 0 < length xs → AllZip (Spells Block) xs ys → AllZip (Spells Block) (cond t ([] ∷ xs) (onto b xs)) (cond t ([] ∷ ys) (onto b ys))
byte_spells true b e xs ys h p = (nothing, p)
byte_spells false b e xs ys h p = fronted_spells (b ∷ []) b (λ x y. byte b x y e) xs ys h p

-- the lines of the bytes spell the lines of the characters
pub rows_spell : {bs cs : List ℕ} → Spells Block bs cs → AllZip (Spells Block) (rows bs) (rows cs)
rows_spell nothing = (nothing, tt)
rows_spell (byte b bs cs e p) = byte_spells (eqb b 10) b e (rows bs) (rows cs) (rows_some bs) (rows_spell p)
rows_spell (less bs cs p) = fronted_spells (codes "&lt;") 60 (λ x y. less x y) (rows bs) (rows cs) (rows_some bs) (rows_spell p)
rows_spell (greater bs cs p) = fronted_spells (codes "&gt;") 62 (λ x y. greater x y) (rows bs) (rows cs) (rows_some bs) (rows_spell p)
rows_spell (ampersand bs cs p) = fronted_spells (codes "&amp;") 38 (λ x y. ampersand x y) (rows bs) (rows cs) (rows_some bs) (rows_spell p)
rows_spell (quote bs cs p) = fronted_spells (codes "&quot;") 34 (λ x y. quote x y) (rows bs) (rows cs) (rows_some bs) (rows_spell p)

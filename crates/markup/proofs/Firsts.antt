-- A tag is what stands before the first ">".
use Rattle.std.proofs.Common.{◌≡◌, ℕ, zero, suc, ◌<◌, ◌≤◌, Bool, true, false, cond, eqb, List, [], ◌∷◌, ◌++◌, length, get_or, take, drop, Some, None, Ok, Err, Option, Result, sym, refl, ap, ◌∙◌, arith, length-append, length-take-le, get_or-take}
use Rattle.std.proofs.lemmas.List.{take_at}
use Rattle.std.proofs.lemmas.Bool.{cond_both, and_parts, and_from, eqb-true, eqb-false, ne_eqb, cond-true, cond-false}
use Rattle.fault.specs.declared.Reason.{Reason}
use Rattle.fault.specs.declared.Reason.TheVariants.{ByteNotAllowed, Malformed}
use Rattle.letters.specs.declared.Kind.TheVariants.{Text}
use Rattle.letters.specs.Letters.{allowed}
use Rattle.markup.specs.declared.record.Tag.{Tag}
use Rattle.markup.specs.First.{Begins, TagsAre}
use Rattle.markup.specs.Tags.{body_of, before, all_allowed, sized, tag_of}
use Rattle.markup.proofs.Ends.{clean}

before_le : (xs : List ℕ) → before xs ≤ length xs
before_le [] = omega arith
before_le (x ∷ xs) = cond_both (eqb x 62) 0 (suc (before xs)) (λ z. z ≤ suc (length xs)) (λ _. omega arith) (λ _. omega (arith, before_le xs))

-- ---- the first ">" splits the bytes

record Splits (xs : List ℕ) (n : ℕ) : Type 0 where
  whole : n < length xs → xs ≡ take n xs ++ 62 ∷ drop (suc n) xs
  free : (k : ℕ) → k < n → get_or xs k 0 ≡ 62 → ⊥

free_suc : (x : ℕ) (xs : List ℕ) (n : ℕ) → (x ≡ 62 → ⊥) → ((k : ℕ) → k < n → get_or xs k 0 ≡ 62 → ⊥) → (k : ℕ) → k < suc n → get_or (x ∷ xs) k 0 ≡ 62 → ⊥
free_suc x xs n e s zero h f = e f
free_suc x xs n e s (suc k) h f = s k (omega arith) f

splits_here : (x : ℕ) (xs : List ℕ) → x ≡ 62 → Splits (x ∷ xs) 0
splits_here x xs e = record { whole = λ h. ap (λ z. z ∷ xs) e; free = λ k h. absurd (omega arith) }

splits_suc : (x : ℕ) (xs : List ℕ) (n : ℕ) → (x ≡ 62 → ⊥) → Splits xs n → Splits (x ∷ xs) (suc n)
splits_suc x xs n e s = record { whole = λ h. ap (λ zs. x ∷ zs) (s.whole (omega arith)); free = free_suc x xs n e s.free }

splits : (xs : List ℕ) → Splits xs (before xs)
splits [] = record { whole = λ h. absurd (omega arith); free = λ k h. absurd (omega arith) }
splits (x ∷ xs) = cond_both (eqb x 62) 0 (suc (before xs)) (Splits (x ∷ xs)) (λ e. splits_here x xs (eqb-true x 62 e)) (λ e. splits_suc x xs (before xs) (eqb-false x 62 e) (splits xs))

-- and the other way
before_at : (body more : List ℕ) → ((k : ℕ) → k < length body → get_or body k 0 ≡ 62 → ⊥) → before (body ++ 62 ∷ more) ≡ length body
before_at [] more f = refl
before_at (x ∷ xs) more f = cond-false (eqb x 62) 0 (suc (before (xs ++ 62 ∷ more))) (ne_eqb x 62 (f 0 (omega arith))) ∙ ap suc (before_at xs more (λ k h. f (suc k) (omega arith)))

-- ---- which bytes are allowed

each_allowed : (xs : List ℕ) → all_allowed xs ≡ true → (k : ℕ) → k < length xs → allowed Text (get_or xs k 0) ≡ true
each_allowed [] e k h = absurd (omega arith)
each_allowed (x ∷ xs) e zero h = (and_parts (allowed Text x) (all_allowed xs) e).0
each_allowed (x ∷ xs) e (suc k) h = each_allowed xs (and_parts (allowed Text x) (all_allowed xs) e).1 k (omega arith)

allowed_all : (xs : List ℕ) → ((k : ℕ) → k < length xs → allowed Text (get_or xs k 0) ≡ true) → all_allowed xs ≡ true
allowed_all [] f = refl
allowed_all (x ∷ xs) f = and_from (allowed Text x) (all_allowed xs) (f 0 (omega arith)) (allowed_all xs (λ k h. f (suc k) (omega arith)))

-- ---- tags

sized_ok : (o : Option Tag) (m : ℕ) (t : Tag) (n : ℕ) → sized o m ≡ Ok (t, n) → (o ≡ Some t) × (m ≡ n)
sized_ok None m t n e = let z : ◌≡◌ {A = ℕ} 0 1 = cc in absurd (omega arith)
sized_ok (Some u) m t n e =
    let q : ◌≡◌ {A = Tag × ℕ} (u, m) (t, n) = cc in
    (ap {B = Option Tag} (λ (z : Tag × ℕ). Some z.0) q, ap (λ (z : Tag × ℕ). z.1) q)

module _ (outermost : Bool) (rest : List ℕ) where
  abbrev inner : Result (Tag × ℕ) Reason
  inner = sized (body_of outermost (take (before rest) rest)) (before rest)

  begins : (t : Tag) (n : ℕ) (b a : Bool) → clean rest ≡ b → eqb (before rest) (length rest) ≡ a → cond b (cond a (Err Malformed) inner) (Err ByteNotAllowed) ≡ Ok (t, n) → Begins outermost rest t n
  begins t n false a s q e = let z : ◌≡◌ {A = ℕ} 0 1 = cc in absurd (omega arith)
  begins t n true true s q e = let z : ◌≡◌ {A = ℕ} 0 1 = cc in absurd (omega arith)
  begins t n true false s q e =
      let m = before rest in
      let p = sized_ok (body_of outermost (take m rest)) m t n e in
      let h : m < length rest = omega (arith, before_le rest, eqb-false m (length rest) q) in
      let l : length (take m rest) ≡ m = length-take-le m rest (before_le rest) in
      record {
        body = take m rest;
        more = drop (suc m) rest;
        splits = (splits rest).whole h;
        free = λ k w f. (splits rest).free k (omega (arith, l)) (sym (get_or-take m rest k 0 (omega (arith, l))) ∙ f);
        allows = each_allowed (take m rest) s;
        says = p.0;
        size = sym p.1 ∙ sym l;
      }

back : (outermost : Bool) (rest : List ℕ) (t : Tag) (n : ℕ) → Begins outermost rest t n → tag_of outermost rest ≡ Ok (t, n)
back outermost rest t n b =
    let all = b.body ++ 62 ∷ b.more in
    let m : before all ≡ length b.body = before_at b.body b.more b.free in
    let k : take (before all) all ≡ b.body = ap (λ z. take z all) m ∙ take_at b.body (62 ∷ b.more) (length b.body) refl in
    let w : (before all ≡ length all → ⊥) = λ e. omega (arith, e, m, length-append b.body (62 ∷ b.more)) in
    let s : clean all ≡ true = ap all_allowed k ∙ allowed_all b.body b.allows in
    ap (tag_of outermost) b.splits ∙
    cond-true (clean all) (cond (eqb (before all) (length all)) (Err Malformed) (inner outermost all)) (Err ByteNotAllowed) s ∙
    cond-false (eqb (before all) (length all)) (Err Malformed) (inner outermost all) (ne_eqb (before all) (length all) w) ∙
    ap (λ z. sized (body_of outermost z) (before all)) k ∙
    ap (λ z. sized z (before all)) b.says ∙
    ap {B = Result (Tag × ℕ) Reason} (λ z. Ok (t, z)) (m ∙ sym b.size)

pub tags_are : TagsAre
tags_are outermost rest t n = (begins outermost rest t n (clean rest) (eqb (before rest) (length rest)) refl refl, back outermost rest t n)

-- Which cell holds which table: what each change of the lists keeps.
use Rattle.std.proofs.Common.{◌≡◌, ℕ, ◌+◌, ◌<◌, List, [], ◌∷◌, ◌++◌, length, Some, sym, ap, ◌∙◌, subst, inl, inr, arith}
use Rattle.std.specs.List.{slice_get}
use Rattle.std.proofs.lemmas.Bool.{cases_lt}
use Rattle.plan.specs.declared.record.Cell.{Cell}
use Rattle.plan.specs.declared.record.Holds.TheVariants.{Content, Inner}
use Rattle.std.proofs.lemmas.Option.{slice_get_within}
use Rattle.runs.proofs.Lists.{nth_push, nth_old, nth_last}

-- cell k holds table n
pub record Holder (cs : List Cell) (n : ℕ) : Type 0 where
  pub number : ℕ
  pub cell : Cell
  pub there : slice_get cs number ≡ Some cell
  pub holds : cell.holds ≡ Inner n

-- of a sheet with m tables
pub record Nested (m : ℕ) (cs : List Cell) : Type 0 where
  pub holds : (k n : ℕ) (c : Cell) → slice_get cs k ≡ Some c → c.holds ≡ Inner n → (c.table < n) × (n < m)
  pub held : (n : ℕ) → 0 < n → n < m → Holder cs n
  pub once : (i k n : ℕ) (a b : Cell) → slice_get cs i ≡ Some a → slice_get cs k ≡ Some b → a.holds ≡ Inner n → b.holds ≡ Inner n → i ≡ k
  pub later : (i k n : ℕ) (a b : Cell) → slice_get cs i ≡ Some a → slice_get cs k ≡ Some b → a.holds ≡ Inner n → b.table ≡ n → i < k

content_inner : (k n : ℕ) → Content k ≡ Inner n → ⊥
content_inner k n e = let z : ◌≡◌ {A = ℕ} 0 1 = cc in omega arith

inner_same : (m n : ℕ) → Inner m ≡ Inner n → m ≡ n
inner_same m n e = cc

pub nested_none : Nested 0 []
nested_none = record {
  holds = λ k n c e. let z : ◌≡◌ {A = ℕ} 0 1 = cc in absurd (omega arith);
  held = λ n p q. absurd (omega arith);
  once = λ i k n a b e. let z : ◌≡◌ {A = ℕ} 0 1 = cc in absurd (omega arith);
  later = λ i k n a b e. let z : ◌≡◌ {A = ℕ} 0 1 = cc in absurd (omega arith);
}

-- the first table
pub nested_first : (m : ℕ) (cs : List Cell) → m ≡ 0 → Nested m cs → Nested (m + 1) cs
nested_first m cs e s = record {
  holds = λ k n c p q. let h = s.holds k n c p q in (h.0, omega (arith, h.1));
  held = λ n p q. absurd (omega arith);
  once = s.once;
  later = s.later;
}

holder_old : (cs : List Cell) (c : Cell) (n : ℕ) → Holder cs n → Holder (cs ++ c ∷ []) n
holder_old cs c n h = record { number = h.number; cell = h.cell; there = nth_old cs c h.number h.cell h.there; holds = h.holds }

-- a content cell more
pub nested_content : (m : ℕ) (cs : List Cell) (c : Cell) (x : ℕ) → c.holds ≡ Content x → Nested m cs → Nested m (cs ++ c ∷ [])
nested_content m cs c x e s =
    let never : (n : ℕ) (a : Cell) → c ≡ a → a.holds ≡ Inner n → ⊥ = λ n a q h. content_inner x n (sym e ∙ ap (λ (y : Cell). y.holds) q ∙ h) in
    record {
      holds = λ k n a p h. elim (nth_push cs c k a p) [ inl q ↦ s.holds k n a q h | inr q ↦ absurd (never n a q.1 h) ];
      held = λ n p q. holder_old cs c n (s.held n p q);
      once = λ i k n a b p q h g. elim (nth_push cs c i a p) [
        | inl u ↦ elim (nth_push cs c k b q) [ inl v ↦ s.once i k n a b u v h g | inr v ↦ absurd (never n b v.1 g) ]
        | inr u ↦ absurd (never n a u.1 h)
      ];
      later = λ i k n a b p q h g. elim (nth_push cs c i a p) [
        | inl u ↦ elim (nth_push cs c k b q) [ inl v ↦ s.later i k n a b u v h g | inr v ↦ omega (arith, slice_get_within cs i a u, v.0) ]
        | inr u ↦ absurd (never n a u.1 h)
      ];
    }

-- a cell more that holds a new table
pub nested_inner : (m : ℕ) (cs : List Cell) (c : Cell) → c.holds ≡ Inner m → c.table < m → ((k : ℕ) (a : Cell) → slice_get cs k ≡ Some a → a.table < m) → Nested m cs → Nested (m + 1) (cs ++ c ∷ [])
nested_inner m cs c e low known s =
    let is_new : (n : ℕ) (a : Cell) → c ≡ a → a.holds ≡ Inner n → m ≡ n = λ n a q h. inner_same m n (sym e ∙ ap (λ (y : Cell). y.holds) q ∙ h) in
    record {
      holds = λ k n a p h. elim (nth_push cs c k a p) [
        | inl q ↦ let old = s.holds k n a q h in (old.0, omega (arith, old.1))
        | inr q ↦ let new = is_new n a q.1 h in (subst (λ (y : Cell). y.table < n) q.1 (omega arith), omega arith)
      ];
      held = λ n p q. elim (cases_lt n m) [
        | inl h ↦ holder_old cs c n (s.held n p h)
        | inr h ↦ let same : m ≡ n = omega arith in record { number = length cs; cell = c; there = nth_last cs c; holds = e ∙ ap Inner same }
      ];
      once = λ i k n a b p q h g. elim (nth_push cs c i a p) [
        | inl u ↦ elim (nth_push cs c k b q) [
          | inl v ↦ s.once i k n a b u v h g
          | inr v ↦ absurd (omega (arith, (s.holds i n a u h).1, is_new n b v.1 g))
        ]
        | inr u ↦ elim (nth_push cs c k b q) [
          | inl v ↦ absurd (omega (arith, (s.holds k n b v g).1, is_new n a u.1 h))
          | inr v ↦ u.0 ∙ sym v.0
        ]
      ];
      later = λ i k n a b p q h g. elim (nth_push cs c i a p) [
        | inl u ↦ elim (nth_push cs c k b q) [ inl v ↦ s.later i k n a b u v h g | inr v ↦ omega (arith, slice_get_within cs i a u, v.0) ]
        | inr u ↦ elim (nth_push cs c k b q) [
          | inl v ↦ absurd (omega (arith, known k b v, is_new n a u.1 h))
          | inr v ↦ absurd (omega (arith, is_new n a u.1 h, ap (λ (y : Cell). y.table) v.1))
        ]
      ];
    }

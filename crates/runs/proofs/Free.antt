-- When a column is free, told by the cells.
use Rattle.std.proofs.Common.{◌≡◌, ℕ, zero, suc, Bool, true, false, not, ◌&&◌, eqb, List, [], ◌∷◌, ◌++◌, Some, sym, refl, ap, ◌∙◌, arith}
use Rattle.std.specs.List.{slice_get}
use Rattle.std.proofs.lemmas.Bool.{and_left, and_right, and_from, eq-eqb, ne_eqb}
use Rattle.plan.specs.declared.record.Cell.{Cell}
use Rattle.plan.specs.Cells.{takes, free_in}

and_swap : (a b c : Bool) → (a && b) && c ≡ a && (b && c)
and_swap true b c = refl
and_swap false b c = refl

and_one : (a : Bool) → (a && true) ≡ a
and_one true = refl
and_one false = refl

-- one cell more
pub free_push : (cs : List Cell) (c : Cell) (t r j : ℕ) → free_in (cs ++ c ∷ []) t r j ≡ (free_in cs t r j && not (eqb c.table t && takes c r j))
free_push [] c t r j = and_one (not (eqb c.table t && takes c r j))
free_push (d ∷ cs) c t r j =
    ap (λ b. not (eqb d.table t && takes d r j) && b) (free_push cs c t r j) ∙
    sym (and_swap (not (eqb d.table t && takes d r j)) (free_in cs t r j) (not (eqb c.table t && takes c r j)))

-- a column that a cell of the table takes is not free
pub not_free : (cs : List Cell) (t r j k : ℕ) (c : Cell) → slice_get cs k ≡ Some c → c.table ≡ t → takes c r j ≡ true → free_in cs t r j ≡ false
not_free [] t r j k c e q h = let z : ◌≡◌ {A = ℕ} 0 1 = cc in absurd (omega arith)
not_free (d ∷ cs) t r j zero c e q h =
    let same : d ≡ c = cc in
    let both : (eqb d.table t && takes d r j) ≡ true = and_from (eqb d.table t) (takes d r j) (eq-eqb d.table t (ap (λ (x : Cell). x.table) same ∙ q)) (ap (λ x. takes x r j) same ∙ h) in
    and_left (not (eqb d.table t && takes d r j)) (free_in cs t r j) (ap not both)
not_free (d ∷ cs) t r j (suc k) c e q h = and_right (not (eqb d.table t && takes d r j)) (free_in cs t r j) (not_free cs t r j k c e q h)

-- a table without cells is free everywhere
pub all_free : (cs : List Cell) (t r j : ℕ) → ((k : ℕ) (c : Cell) → slice_get cs k ≡ Some c → c.table ≡ t → ⊥) → free_in cs t r j ≡ true
all_free [] t r j h = refl
all_free (d ∷ cs) t r j h =
    and_from (not (eqb d.table t && takes d r j)) (free_in cs t r j)
    (ap not (and_left (eqb d.table t) (takes d r j) (ne_eqb d.table t (h 0 d refl))))
    (all_free cs t r j (λ k. h (suc k)))

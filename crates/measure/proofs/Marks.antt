-- A span that is not marked does not occur, and its walk may be left out.
-- Assumes nothing.
use Rattle.std.proofs.Common.{◌≡◌, ℕ, ◌+◌, ◌<◌, Bool, true, false, eqb, List, [], ◌∷◌, length, get_or, take, set, sym, refl, ap, ◌∙◌, inl, inr, get_or-set_other, get_or-set_same}
use Rattle.std.proofs.ByRecursion.{All-more}
use Rattle.std.proofs.lemmas.Bool.{cases_eq, cases_Bool, cond-false, ne_eqb, true≢false}
use Rattle.plan.specs.declared.record.Cell.{Cell}
use Rattle.plan.specs.Blank.{blank_cell}
use Rattle.columns.specs.Columns.{each_of}
use Rattle.columns.specs.Wants.{Want}
use Rattle.measure.specs.declared.ask.Ask.{Ask}
use Rattle.measure.specs.Asks.{Absent, asks_in, wants}

-- spans without a mark are not among the cells
abbrev pub Marked : ℕ → ℕ → List Bool → List Cell → Type 0
Marked t n ms cs = (s : ℕ) → get_or ms s false ≡ false → Absent t n s cs

module _ (t n : ℕ) (ms : List Bool) (cs : List Cell) (i : ℕ) (h : i < length cs) where
  pub marked_yes : (get_or cs i blank_cell).across < length ms → Marked t n ms (take i cs) →
      Marked t n (set ms (get_or cs i blank_cell).across true) (take (i + 1) cs)
  marked_yes l m s e =
      let k = (get_or cs i blank_cell).across in
      elim (cases_eq s k) [
        | inl same ↦ absurd (true≢false (sym (get_or-set_same ms k true false l) ∙ ap (λ j. get_or (set ms k true) j false) (sym same) ∙ e))
        | inr other ↦
            All-more (λ c. asks_in t n c ≡ true → c.across ≡ s → ⊥) cs i blank_cell h (m s (sym (get_or-set_other ms k s true false other) ∙ e)) (λ _ is. other (sym is))
      ]

  pub marked_no : asks_in t n (get_or cs i blank_cell) ≡ false → Marked t n ms (take i cs) → Marked t n ms (take (i + 1) cs)
  marked_no not m s e =
      All-more (λ c. asks_in t n c ≡ true → c.across ≡ s → ⊥) cs i blank_cell h (m s e) (λ is _. true≢false (sym is ∙ not))

-- a span that does not occur changes nothing
pub each_absent : {S : Type 0} (f : Want → S → S) (t n s : ℕ) (cs : List Cell) (as' : List Ask) (x : S) → Absent t n s cs → each_of s f (wants t n cs as') x ≡ x
unfolding each_of
each_absent f t n s [] as' x h = refl
each_absent f t n s (c ∷ cs) [] x h = refl
each_absent f t n s (c ∷ cs) (a ∷ as') x h =
    elim (cases_Bool (asks_in t n c)) [
      | inl is ↦
          rw is (ap (λ y. each_of s f (wants t n cs as') y) (cond-false (eqb c.across s) _ _ (ne_eqb c.across s (h.0 is))) ∙ each_absent f t n s cs as' x h.1)
      | inr not ↦ rw not (each_absent f t n s cs as' x h.1)
    ]

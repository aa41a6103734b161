-- What is known of a block while its characters are read one after the other, and at the end.
use Rattle.std.proofs.Common.{◌≡◌, ℕ, ◌+◌, ◌-◌, ◌<◌, ◌≤◌, min, max, Bool, true, cond, not, ◌&&◌, eqb, List, [], ◌∷◌, ◌++◌, length, take, drop, set, replicate, sym, refl, ap, ◌∙◌, subst, arith}
use Rattle.std.proofs.lemmas.List.{take_more_set, append_assoc, drop-set-lt, drop-drop, drop-replicate}
use Rattle.std.proofs.lemmas.Bool.{cond_both, eqb-true, eqb-false, ne_eqb}
use Rattle.letters.specs.Letters.{letters_from, sound, Stepped}
use Rattle.letters.specs.declared.Kind.TheVariants.{Block}
use Rattle.letters.proofs.Steps.{letters_none}
use Rattle.typeset.specs.Words.{longest}
use Rattle.typeset.specs.Lines.{onto, first}
use Rattle.typeset.specs.Rows.{rows_from}
use Rattle.typeset.specs.Contents.{measured, Surveyed}
use Rattle.typeset.proofs.Onto.{length_onto, first_onto}
use Rattle.typeset.proofs.Steps.{sound_more, and_true}
use Rattle.typeset.proofs.Rows.{rows_some, rows_break, rows_keep, rows_end, longest_after, longest_whole, longest_onto, longest_drop}
use Rattle.typeset.proofs.Passing.{Passing, passing_onto, passing_other, passing_here, first_drop}

-- the characters before the byte at were read: what they tell together with those still to come is what all tell
pub record Tallied (s : List ℕ) (r at : ℕ) (good : Bool) (least width high start : ℕ) : Type 0 where
  pub inside : at ≤ length s
  pub width_low : width ≤ at
  pub high_low : high ≤ at + 1
  pub start_low : start ≤ length s
  pub good_so : sound (letters_from Block s 0) ≡ (good && sound (letters_from Block s at))
  pub least_so : max least (longest_after width (rows_from s at)) ≡ longest (rows_from s 0)
  pub high_so : high + length (rows_from s at) ≡ 1 + length (rows_from s 0)
  pub passing : Passing (rows_from s 0) (rows_from s at) (rows_from s) r high start

module _ (s : List ℕ) (r at c next : ℕ) (good : Bool) (least width high start : ℕ) (p : Stepped Block s at c next) (t : Tallied s r at good least width high start) where
  -- a character of the line
  pub tallied_keep : (c ≡ 10 → ⊥) → Tallied s r next (good && not (eqb c 0)) least (width + 1) high start
  tallied_keep ne =
      let kept : rows_from s at ≡ onto c (rows_from s next) = rows_keep s at c next p.step (ne_eqb c 10 ne) in
      let long : longest_after width (rows_from s at) ≡ longest_after (width + 1) (rows_from s next) = ap (longest_after width) kept ∙ longest_onto width c (rows_from s next) in
      let some = rows_some (letters_from Block s next) in
      let many : length (rows_from s at) ≡ length (rows_from s next) = ap length kept ∙ length_onto c (rows_from s next) some in
      record {
        inside = p.high;
        width_low = omega (arith, p.low, t.width_low);
        high_low = omega (arith, p.low, t.high_low);
        start_low = t.start_low;
        good_so = sound_more Block s (letters_from Block s 0) at c next good p.step t.good_so;
        least_so = omega (arith, t.least_so);
        high_so = omega (arith, t.high_so);
        passing = passing_onto (rows_from s 0) (rows_from s) r (rows_from s at) (rows_from s next) c high start kept some t.passing;
      }

  -- a newline
  pub tallied_break : (least2 start2 : ℕ) → c ≡ 10 → least2 ≡ max width least → start2 ≡ cond (eqb high r) next start → Tallied s r next good least2 0 (high + 1) start2
  tallied_break least2 start2 newline el es =
      let broken : rows_from s at ≡ [] ∷ rows_from s next = rows_break s at c next p.step newline in
      let long : longest_after width (rows_from s at) ≡ max (width + 0) (longest (rows_from s next)) = ap (longest_after width) broken in
      let many : length (rows_from s at) ≡ 1 + length (rows_from s next) = ap length broken ∙ omega arith in
      record {
        inside = p.high;
        width_low = omega arith;
        high_low = omega (arith, p.low, t.high_low);
        start_low = subst (λ x. x ≤ length s) (sym es) (cond_both (eqb high r) next start (λ x. x ≤ length s) (λ _. p.high) (λ _. t.start_low));
        good_so = t.good_so ∙ ap (λ cs. good && sound cs) p.step ∙ ap (λ d. good && sound (d ∷ letters_from Block s next)) newline;
        least_so = omega (arith, t.least_so, longest_whole (rows_from s next));
        high_so = omega (arith, t.high_so);
        passing = subst (λ x. Passing (rows_from s 0) (rows_from s next) (rows_from s) r (high + 1) x) (sym es)
            (cond_both (eqb high r) next start (λ x. Passing (rows_from s 0) (rows_from s next) (rows_from s) r (high + 1) x)
            (λ h. passing_here (rows_from s 0) (rows_from s) r (rows_from s at) (rows_from s next) [] high start next broken (eqb-true high r h) refl t.passing)
            (λ h. passing_other (rows_from s 0) (rows_from s) r (rows_from s at) (rows_from s next) [] high start broken (eqb-false high r h) t.passing));
      }

-- at the end, what was counted is what the block tells
pub tallied_all : (s : List ℕ) (w r at : ℕ) (good : Bool) (least width high start wide high2 : ℕ) → wide ≡ measured (max width least) → high2 ≡ min high 65535 → length s ≤ at → Tallied s r at good least width high start → Surveyed Block s w r good wide wide high2 start
tallied_all s w r at good least width high start wide high2 ew eh end t =
    let last : rows_from s at ≡ [] ∷ [] = rows_end s at end in
    let long : longest_after width (rows_from s at) ≡ max (width + 0) 0 = ap (longest_after width) last in
    let many : length (rows_from s at) ≡ 1 = ap length last in
    let ok : sound (letters_from Block s at) ≡ true = ap sound (letters_none Block s at end) in
    record {
      good_is = sym (t.good_so ∙ and_true good (sound (letters_from Block s at)) ok);
      least_is = omega (arith, t.least_so);
      most_is = omega (arith, t.least_so);
      high_is = omega (arith, t.high_so);
      start_is = λ small low.
          let begun : rows_from s start ≡ drop r (rows_from s 0) = t.passing.begun (omega (arith, t.high_so)) in
          record {
            inside = t.start_low;
            small = omega (arith, ap longest begun, longest_drop r (rows_from s 0));
            same = first_drop r (rows_from s 0) (rows_from s start) begun;
          };
    }

-- the first i characters of a line stand in out, what follows them in the bytes is the rest of the line, and blanks are left
pub record Writing (s row out : List ℕ) (n at i : ℕ) : Type 0 where
  pub done : take i out ++ first (rows_from s at) ≡ row
  pub blank : drop i out ≡ replicate (n - i) 32

drop_more_set : (i : ℕ) (xs : List ℕ) (x n v : ℕ) → drop i xs ≡ replicate (n - i) v → drop (i + 1) (set xs i x) ≡ replicate (n - (i + 1)) v
drop_more_set i xs x n v e =
    let lt : i < i + 1 = omega arith in
    let k : n - i - 1 ≡ n - (i + 1) = omega arith in
    drop-set-lt (i + 1) xs i x lt ∙ sym (drop-drop 1 i xs) ∙ ap (drop 1) e ∙ drop-replicate 1 (n - i) v ∙ ap (λ j. replicate j v) k

pub writing_more : (s row out : List ℕ) (n at i c next : ℕ) → i < length out → letters_from Block s at ≡ c ∷ letters_from Block s next → (c ≡ 10 → ⊥) → Writing s row out n at i → Writing s row (set out i c) n next (i + 1)
writing_more s row out n at i c next h step ne w = record {
  done =
      ap (λ xs. xs ++ first (rows_from s next)) (take_more_set out i c h) ∙ append_assoc (take i out) (c ∷ []) (first (rows_from s next)) ∙
      ap (λ xs. take i out ++ xs) (sym (ap first (rows_keep s at c next step (ne_eqb c 10 ne)) ∙ first_onto c (rows_from s next))) ∙ w.done;
  blank = drop_more_set i out c n 32 w.blank;
}

none_left : (xs : List ℕ) → length xs ≡ 0 → xs ≡ []
none_left [] e = refl
none_left (x ∷ xs) e = absurd (omega arith)

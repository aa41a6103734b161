-- Words in small letters, spelled in either case.
use Rattle.std.proofs.Common.{◌≡◌, ℕ, Bool, true, cond, ◌&&◌, eqb, List, [], ◌∷◌, map, find, Some, None, Bor, Option, sym, refl, ap, ◌∙◌, arith}
use Rattle.std.specs.Char.{to_ascii_lowercase}
use Rattle.std.specs.Option.{option_map}
use Rattle.std.specs.Str.{bytes_eq, str_eq_ignore_ascii_case}
use Rattle.std.proofs.lemmas.Bool.{cond_both, and_parts, eqb-true, cond-true, cond-false}
use Rattle.std.proofs.lemmas.Bool.Decides.{nat_tests}
use Rattle.markup.specs.Spans.{lower, spells}
use Rattle.markup.specs.Views.{spelled}

same_lower : (b : ℕ) → to_ascii_lowercase b ≡ lower b
same_lower b = grind (arith, nat_tests)

abbrev small : List ℕ → List ℕ
small = map to_ascii_lowercase

-- a word in small letters is spelled in either case
spells_small : (bs word : List ℕ) → bytes_eq (small word) word ≡ true → str_eq_ignore_ascii_case bs word ≡ spells bs word
spells_small [] [] e = refl
spells_small [] (c ∷ cs) e = refl
spells_small (b ∷ bs) [] e = refl
spells_small (b ∷ bs) (c ∷ cs) e =
    let p = and_parts (eqb (to_ascii_lowercase c) c) (bytes_eq (small cs) cs) e in
    ap (λ z. eqb z (to_ascii_lowercase c) && str_eq_ignore_ascii_case bs cs) (same_lower b) ∙
    ap (λ z. eqb (lower b) z && str_eq_ignore_ascii_case bs cs) (eqb-true (to_ascii_lowercase c) c p.0) ∙
    ap (λ z. eqb (lower b) c && z) (spells_small bs cs p.1)

module _ {T : Type 0} where
  abbrev pub all_small : List (List ℕ × T) → Bool
  all_small [] = true
  all_small (w ∷ ws) = bytes_eq (small w.0) w.0 && all_small ws

  -- one test after another
  abbrev pub looked_up : List (List ℕ × T) → List ℕ → Option T
  looked_up [] bs = None
  looked_up (w ∷ ws) bs = cond (spells bs w.0) (Some w.1) (looked_up ws bs)

  pub is_looked_up : (ws : List (List ℕ × T)) (bs : List ℕ) → all_small ws ≡ true → spelled ws bs ≡ looked_up ws bs
  is_looked_up [] bs s = refl
  is_looked_up (w ∷ ws) bs s =
      let p = and_parts (bytes_eq (small w.0) w.0) (all_small ws) s in
      cond_both (str_eq_ignore_ascii_case bs w.0) (Some w) (find (λ v. str_eq_ignore_ascii_case bs v.0) ws) (λ o. option_map (λ v. v.1) o ≡ looked_up (w ∷ ws) bs)
      (λ e. sym (cond-true (spells bs w.0) (Some w.1) (looked_up ws bs) (sym (spells_small bs w.0 p.0) ∙ e)))
      (λ e. is_looked_up ws bs p.1 ∙ sym (cond-false (spells bs w.0) (Some w.1) (looked_up ws bs) (sym (spells_small bs w.0 p.0) ∙ e)))

  -- the same of words behind references
  pub spelled_behind : (ws : List (Bor (List ℕ) × T)) (bs : List ℕ) → option_map (λ w. w.1) (find (λ w. str_eq_ignore_ascii_case bs w.0.now) ws) ≡ spelled (map (λ w. (w.0.now, w.1)) ws) bs
  spelled_behind [] bs = refl
  spelled_behind (w ∷ ws) bs =
      let t = str_eq_ignore_ascii_case bs w.0.now in
      let more = find (λ v. str_eq_ignore_ascii_case bs v.0) (map (λ v. (v.0.now, v.1)) ws) in
      cond_both t (Some w) (find (λ v. str_eq_ignore_ascii_case bs v.0.now) ws) (λ o. option_map (λ v. v.1) o ≡ option_map (λ v. v.1) (cond t (Some (w.0.now, w.1)) more))
      (λ e. ap (option_map (λ v. v.1)) (sym (cond-true t (Some (w.0.now, w.1)) more e)))
      (λ e. spelled_behind ws bs ∙ ap (option_map (λ v. v.1)) (sym (cond-false t (Some (w.0.now, w.1)) more e)))

-- What texts and blocks have in common: their lines fit every width from their longest part on, and can be shown.
use Rattle.std.proofs.Common.{◌≡◌, ℕ, zero, suc, ◌<◌, ◌≤◌, true, List, [], ◌∷◌, map, length, get_or, sym, refl, subst, ⊎_elim, arith, lit≤}
use Rattle.std.specs.List.{AllByRecursion}
use Rattle.std.proofs.lemmas.List.{length-map, get_or_past}
use Rattle.std.proofs.lemmas.Bool.{cases_lt}
use Rattle.letters.specs.Letters.{letters}
use Rattle.letters.specs.declared.Kind.{Kind}
use Rattle.letters.specs.declared.Kind.TheVariants.{Text, Block}
use Rattle.letters.proofs.Visible.{Seen, seen_letters}
use Rattle.typeset.specs.Words.{words, longest}
use Rattle.typeset.specs.Lines.{spaced, lines}
use Rattle.typeset.specs.Rows.{rows}
use Rattle.typeset.specs.Contents.{Content, content}
use Rattle.typeset.proofs.Filling.{filled_some}
use Rattle.typeset.proofs.Laws.{nothing_lost}
use Rattle.typeset.proofs.Each.{each_at, each_shown, longest_spaced}
use Rattle.typeset.proofs.Rows.{rows_some, each_row, longest_at}

pub record Settable (x : Content) : Type 0 where
  pub ordered : x.least ≤ x.most
  pub some : (w : ℕ) → 0 < length (x.lines_at w)
  pub fits : (w r : ℕ) → x.least ≤ w → length (get_or (x.lines_at w) r []) ≤ w
  pub seen : x.good ≡ true → (w r c : ℕ) → Seen (get_or (get_or (x.lines_at w) r []) c 32)

pub getD_each : {X Y : Type 0} (f : X → Y) (xs : List X) (i : ℕ) (d : X) → get_or (map f xs) i (f d) ≡ f (get_or xs i d)
getD_each f [] i d = refl
getD_each f (x ∷ xs) zero d = refl
getD_each f (x ∷ xs) (suc i) d = getD_each f xs i d

module _ (w : ℕ) (ws : List (List ℕ)) where
  -- line r of a text as characters
  pub spaced_at : (r : ℕ) → get_or (map spaced (lines w ws)) r [] ≡ spaced (get_or (lines w ws) r [])
  spaced_at r = getD_each spaced (lines w ws) r []

  line_fits : (r : ℕ) → longest ws ≤ w → length (get_or (map spaced (lines w ws)) r []) ≤ w
  line_fits r h =
      subst (λ l. length l ≤ w) (sym (spaced_at r))
      (⊎_elim
      (λ (p : r < length (lines w ws)). (nothing_lost ws w h).within r p)
      (λ (p : length (lines w ws) ≤ r). subst (λ l. length (spaced l) ≤ w) (sym (get_or_past (lines w ws) r [] p)) (omega arith))
      (cases_lt r (length (lines w ws))))

text_settable : (bs : List ℕ) → Settable (content Text bs)
text_settable bs =
    let cs : List ℕ = letters Text bs in
    record {
      ordered = longest_spaced (words cs);
      some = λ w. omega (arith, length-map (lines w (words cs)) spaced, filled_some w 0 (words cs));
      fits = λ w r h. line_fits w (words cs) r h;
      seen = λ e w r c. subst (λ l. Seen (get_or l c 32)) (sym (spaced_at w (words cs) r)) (each_shown Seen cs w r c (lit≤ tt, lit≤ tt) (seen_letters Text bs e));
    }

block_settable : (bs : List ℕ) → Settable (content Block bs)
block_settable bs =
    let cs : List ℕ = letters Block bs in
    record {
      ordered = omega arith;
      some = λ w. rows_some cs;
      fits = λ w r h. omega (arith, longest_at r (rows cs));
      seen = λ e w r c. each_at Seen (get_or (rows cs) r []) c 32 (each_at (λ l. AllByRecursion Seen l) (rows cs) r [] (each_row Seen cs (seen_letters Block bs e)) tt) (lit≤ tt, lit≤ tt);
    }

pub settable : (kind : Kind) (bs : List ℕ) → Settable (content kind bs)
settable Text bs = text_settable bs
settable Block bs = block_settable bs

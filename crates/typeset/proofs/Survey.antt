-- What is known of a text while its words are read one after the other, and at the end.
use Rattle.std.proofs.Common.{◌≡◌, ℕ, ◌+◌, ◌-◌, ◌<◌, ◌≤◌, min, max, Bool, true, cond, ◌&&◌, eqb, List, [], ◌∷◌, map, length, sym, refl, ap, ◌∙◌, subst, arith}
use Rattle.std.proofs.lemmas.List.{length-map}
use Rattle.std.proofs.lemmas.Bool.{cond_both, eqb-true, eqb-false}
use Rattle.letters.specs.Letters.{letters_from, sound}
use Rattle.letters.specs.declared.Kind.TheVariants.{Text}
use Rattle.typeset.specs.Words.{words_from, longest, Found}
use Rattle.typeset.specs.Lines.{spaced, places, onto, filled, lines}
use Rattle.typeset.specs.Contents.{measured, Surveyed}
use Rattle.typeset.proofs.Steps.{and_shift, and_true}
use Rattle.typeset.proofs.Filling.{word_at, longest_found, places_found, count_fits, count_breaks, count_end, fits_found, breaks_found, filled_some}
use Rattle.typeset.proofs.Laws.{length_spaced}
use Rattle.typeset.proofs.Passing.{Passing, passing_onto, passing_other, passing_here, first_drop}
use Rattle.typeset.proofs.Settable.{spaced_at}

-- the words before the byte at were read: what they tell together with the words still to come is what all words tell
pub record Counting (s : List ℕ) (w r at : ℕ) (good : Bool) (least most high taken start : ℕ) : Type 0 where
  pub inside : at ≤ length s
  pub most_low : most ≤ 65536
  pub high_low : high ≤ at + 1
  pub taken_low : taken ≤ at + w + 1
  pub start_low : start ≤ length s
  pub good_so : sound (letters_from Text s 0) ≡ (good && sound (letters_from Text s at))
  pub least_so : max least (longest (words_from s at)) ≡ longest (words_from s 0)
  pub most_so : min (most + places (words_from s at)) 65536 ≡ min (places (words_from s 0)) 65536
  pub high_so : high + length (filled w taken (words_from s at)) ≡ 1 + length (lines w (words_from s 0))
  pub start_small : longest (words_from s start) ≤ longest (words_from s 0)
  pub passing : longest (words_from s 0) ≤ w → Passing (lines w (words_from s 0)) (filled w taken (words_from s at)) (λ i. lines w (words_from s i)) r high start

-- the word that was found is read
abbrev pub wider : ℕ → ℕ → ℕ
wider most n = min (most + min n 65536 + 1) 65536

module _ (s : List ℕ) (w r at from to n : ℕ) (ok good : Bool) (least most high taken start : ℕ) (f : Found s at from to n) (e : sound (letters_from Text s at) ≡ (ok && sound (letters_from Text s to))) (c : Counting s w r at good least most high taken start) (least2 most2 : ℕ) (el : least2 ≡ max n least) (em : most2 ≡ wider most n) where
  good_more : sound (letters_from Text s 0) ≡ ((good && ok) && sound (letters_from Text s to))
  good_more = c.good_so ∙ ap (λ b. good && b) e ∙ and_shift good ok (sound (letters_from Text s to))

  pub counting_fits : taken + n ≤ w → Counting s w r to (good && ok) least2 most2 high (taken + (n + 1)) start
  counting_fits h =
      let long = longest_found s at from to n f in
      let wide = places_found s at from to n f in
      let more = count_fits w taken s at from to n f h in
      record {
        inside = f.high;
        most_low = omega arith;
        high_low = omega (arith, f.low, c.high_low);
        taken_low = omega (arith, f.low, c.taken_low);
        start_low = c.start_low;
        good_so = good_more;
        least_so = omega (arith, c.least_so);
        most_so = omega (arith, c.most_so, c.most_low);
        high_so = omega (arith, c.high_so);
        start_small = c.start_small;
        passing = λ small. passing_onto _ _ r _ (filled w (taken + (n + 1)) (words_from s to)) (word_at s from n) high start (fits_found w taken s at from to n f h) (filled_some w (taken + (n + 1)) (words_from s to)) (c.passing small);
      }

  -- the first of the words from at on is the first from the byte here on, too
  passed : (here : ℕ) → words_from s here ≡ words_from s at → w < taken + n → longest (words_from s 0) ≤ w → Passing (lines w (words_from s 0)) (onto (word_at s from n) (filled w (n + 1) (words_from s to))) (λ i. lines w (words_from s i)) r (high + 1) (cond (eqb high r) here start)
  passed here same h small =
      let all = lines w (words_from s 0) in
      let begins : ℕ → List (List (List ℕ)) = λ i. lines w (words_from s i) in
      let left = filled w taken (words_from s at) in
      let more = onto (word_at s from n) (filled w (n + 1) (words_from s to)) in
      let broken : left ≡ [] ∷ more = breaks_found w taken s at from to n f h in
      let fits : 0 + n ≤ w = omega (arith, longest_found s at from to n f, c.least_so) in
      let z : 0 + (n + 1) ≡ n + 1 = omega arith in
      let begun : begins here ≡ more = ap (lines w) same ∙ fits_found w 0 s at from to n f fits ∙ ap (λ k. onto (word_at s from n) (filled w k (words_from s to))) z in
      cond_both (eqb high r) here start (λ x. Passing all more begins r (high + 1) x)
      (λ t. passing_here all begins r left more [] high start here broken (eqb-true high r t) begun (c.passing small))
      (λ t. passing_other all begins r left more [] high start broken (eqb-false high r t) (c.passing small))

  pub counting_breaks : (here start2 : ℕ) → here ≤ length s → words_from s here ≡ words_from s at → start2 ≡ cond (eqb high r) here start → w < taken + n → Counting s w r to (good && ok) least2 most2 (high + 1) (n + 1) start2
  counting_breaks here start2 low same es h =
      let long = longest_found s at from to n f in
      let wide = places_found s at from to n f in
      let more = count_breaks w taken s at from to n f h in
      record {
        inside = f.high;
        most_low = omega arith;
        high_low = omega (arith, f.low, f.some, c.high_low);
        taken_low = omega (arith, f.low, c.taken_low);
        start_low = subst (λ x. x ≤ length s) (sym es) (cond_both (eqb high r) here start (λ x. x ≤ length s) (λ _. low) (λ _. c.start_low));
        good_so = good_more;
        least_so = omega (arith, c.least_so);
        most_so = omega (arith, c.most_so, c.most_low);
        high_so = omega (arith, c.high_so);
        start_small = subst (λ x. longest (words_from s x) ≤ longest (words_from s 0)) (sym es) (cond_both (eqb high r) here start (λ x. longest (words_from s x) ≤ longest (words_from s 0)) (λ _. omega (arith, c.least_so, ap longest same)) (λ _. c.start_small));
        passing = λ small. passing_onto _ _ r _ (filled w (n + 1) (words_from s to)) (word_at s from n) (high + 1) start2 refl (filled_some w (n + 1) (words_from s to)) (subst (λ x. Passing (lines w (words_from s 0)) (onto (word_at s from n) (filled w (n + 1) (words_from s to))) (λ i. lines w (words_from s i)) r (high + 1) x) (sym es) (passed here same h small));
      }

-- with no word left, what was counted is what the text tells
pub counting_all : (s : List ℕ) (w r at : ℕ) (good : Bool) (least most high taken start least2 most2 high2 : ℕ) → least2 ≡ measured least → most2 ≡ measured (most - 1) → high2 ≡ min high 65535 → words_from s at ≡ [] → sound (letters_from Text s at) ≡ true → Counting s w r at good least most high taken start → Surveyed Text s w r good least2 most2 high2 start
counting_all s w r at good least most high taken start least2 most2 high2 el em eh none ok c =
    let ws = words_from s 0 in
    let long : longest (words_from s at) ≡ 0 = ap longest none in
    let wide : places (words_from s at) ≡ 0 = ap places none in
    let last : length (filled w taken (words_from s at)) ≡ 1 = count_end w taken (words_from s at) none in
    let rows : length (map spaced (lines w ws)) ≡ length (lines w ws) = length-map (lines w ws) spaced in
    record {
      good_is = sym (c.good_so ∙ and_true good (sound (letters_from Text s at)) ok);
      least_is = omega (arith, c.least_so);
      most_is = omega (arith, c.most_so, c.most_low, length_spaced ws);
      high_is = omega (arith, c.high_so);
      start_is = λ small low. record {
        inside = c.start_low;
        small = omega (arith, c.start_small);
        same = spaced_at w (words_from s start) 0 ∙ ap spaced (first_drop r (lines w ws) (lines w (words_from s start)) ((c.passing small).begun (omega (arith, c.high_so)))) ∙ sym (spaced_at w ws r);
      };
    }

-- End tags, and tags with where they end.
use Rattle.std.proofs.Common.{◌≡◌, ℕ, ◌-◌, ◌<◌, ◌≤◌, Bool, true, false, cond, eqb, List, [], ◌∷◌, length, take, drop, Some, None, Ok, Err, Option, Result, sym, refl, ap, ◌∙◌, arith, length-drop}
use Rattle.std.specs.Bool.{then_some}
use Rattle.std.specs.Option.{ok_or}
use Rattle.std.proofs.lemmas.Bool.{cond_both, cond-true, cond-false, eq-eqb, ne_eqb, eqb-true, eqb-false}
use Rattle.classes.specs.Classes.{white}
use Rattle.fault.specs.declared.Reason.{Reason}
use Rattle.fault.specs.declared.Reason.TheVariants.{ByteNotAllowed, Malformed}
use Rattle.markup.specs.declared.record.Attribute.{Attribute}
use Rattle.markup.specs.declared.record.Name.{Name}
use Rattle.markup.specs.declared.record.Tag.{Tag}
use Rattle.markup.specs.declared.record.Tag.TheVariants.{End}
use Rattle.markup.specs.Attributes.{Values, Given, Piece, Bad, Last, no_values, given_of, piece_one, piece_at, after_piece, values_of}
use Rattle.markup.specs.Spans.{front}
use Rattle.markup.specs.Tags.{ended, ending_of, body_of, before, sized, tag_of}
use Rattle.markup.specs.Views.{closed, closed_within, closing}
use Rattle.markup.proofs.Ends.{clean}
use Rattle.markup.proofs.Runs.{front_le}

-- ---- end tags

abbrev none_may : Attribute → Bool
none_may a = false

module _ (name : Name) (f : Values → ℕ → Option Values) where
  after : Piece → Option Tag
  after p = ended name (after_piece none_may p no_values f)

  after_one : (o : Option Given) (w : ℕ) → after (piece_one o w) ≡ None
  unfolding after
  after_one None w = refl
  after_one (Some g) w = refl

  after_some : (xs : List ℕ) (w : ℕ) → w < length xs → after (piece_at xs w) ≡ None
  unfolding after
  after_some xs w h =
      cond_both (eqb w 0) Bad _ (λ p. after p ≡ None) (λ _. refl) (λ _.
      cond_both (eqb w (length xs)) Last _ (λ p. after p ≡ None) (λ e. absurd (omega (arith, eqb-true w (length xs) e))) (λ _. after_one (given_of (drop w xs)) w))

  after_white : (xs : List ℕ) (w : ℕ) → 0 < length xs → w ≡ length xs → after (piece_at xs w) ≡ Some (End name)
  unfolding after
  after_white xs w h k =
      cond_both (eqb w 0) Bad _ (λ p. after p ≡ Some (End name)) (λ e. absurd (omega (arith, eqb-true w 0 e))) (λ _.
      cond_both (eqb w (length xs)) Last _ (λ p. after p ≡ Some (End name)) (λ _. refl) (λ e. absurd (eqb-false w (length xs) e k)))

-- what comes after the name of an end tag is white space, or else there is no tag
pub white_ends : (name : Name) (rest : List ℕ) → length rest ≤ front white rest → front white rest ≤ length rest → Some (End name) ≡ ending_of rest (Some name)
unfolding after
white_ends name [] h k = refl
white_ends name (b ∷ bs) h k = sym (after_white name (λ z k. values_of none_may z k bs) (b ∷ bs) (front white (b ∷ bs)) (omega arith) (omega arith))

pub more_spoils : (name : Name) (rest : List ℕ) → front white rest < length rest → None ≡ ending_of rest (Some name)
unfolding after
more_spoils name [] h = absurd (omega arith)
more_spoils name (b ∷ bs) h = sym (after_some name (λ z k. values_of none_may z k bs) (b ∷ bs) (front white (b ∷ bs)) h)

-- the same by a test of what follows the white space
by_test : (name : Name) (rest : List ℕ) (t : Bool) → eqb (length rest - front white rest) 0 ≡ t → then_some t (End name) ≡ ending_of rest (Some name)
by_test name rest true e = white_ends name rest (omega (arith, eqb-true (length rest - front white rest) 0 e)) (front_le white rest)
by_test name rest false e = more_spoils name rest (omega (arith, eqb-false (length rest - front white rest) 0 e))

pub ended_by : (name : Name) (rest more : List ℕ) → more ≡ drop (front white rest) rest → then_some (eqb (length more) 0) (End name) ≡ ending_of rest (Some name)
ended_by name rest more e =
    let l : length more ≡ length rest - front white rest = ap length e ∙ length-drop (front white rest) rest in
    by_test name rest (eqb (length more) 0) (ap (λ z. eqb z 0) (sym l))

-- ---- tags

pub closes : (xs : List ℕ) (n : ℕ) → n < length xs → Some n ≡ closed xs → Ok n ≡ closing xs
closes xs n h e =
    sym (cond-false (eqb n (length xs)) (Err Malformed) (Ok n) (ne_eqb n (length xs) (λ k. omega arith))) ∙ ap (λ o. closed_within o (length xs)) e

pub forbids : (xs : List ℕ) → None ≡ closed xs → Err ByteNotAllowed ≡ closing xs
forbids xs e = ap (λ o. closed_within o (length xs)) e

pub goes_on : (xs : List ℕ) → Some (length xs) ≡ closed xs → Err Malformed ≡ closing xs
goes_on xs e =
    sym (cond-true (eqb (length xs) (length xs)) (Err Malformed) (Ok (length xs)) (eq-eqb (length xs) (length xs) refl)) ∙ ap (λ o. closed_within o (length xs)) e

within_at : (b n : ℕ) (e : Bool) → Ok n ≡ cond e (Err Malformed) (Ok b) → n ≡ b
within_at b n true h = absurd cc
within_at b n false h = cc

closed_at : (b m n : ℕ) (t : Bool) → Ok n ≡ closed_within (cond t (Some b) None) m → n ≡ b
closed_at b m n true h = within_at b n (eqb b m) h
closed_at b m n false h = absurd cc

-- what ends at n has n bytes before its end
pub closed_before : (xs : List ℕ) (n : ℕ) → Ok n ≡ closing xs → n ≡ before xs
closed_before xs n e = closed_at (before xs) (length xs) n (clean xs) e

module _ (outermost : Bool) (xs : List ℕ) where
  -- the tag by where it ends
  abbrev pub from_end : Result ℕ Reason → Result (Tag × ℕ) Reason
  from_end (Ok n) = sized (body_of outermost (take n xs)) n
  from_end (Err e) = Err e

  pub by_end : from_end (closing xs) ≡ tag_of outermost xs
  by_end =
      let b = before xs in
      let inner = cond (eqb b (length xs)) (Err Malformed) (sized (body_of outermost (take b xs)) b) in
      cond_both (clean xs) (Some b) None (λ o. from_end (closed_within o (length xs)) ≡ cond (clean xs) inner (Err ByteNotAllowed))
      (λ e. cond_both (eqb b (length xs)) (Err Malformed) (Ok b) (λ r. from_end r ≡ cond (clean xs) inner (Err ByteNotAllowed))
      (λ f. sym (cond-true (clean xs) inner (Err ByteNotAllowed) e ∙ cond-true (eqb b (length xs)) (Err Malformed) (sized (body_of outermost (take b xs)) b) f))
      (λ f. sym (cond-true (clean xs) inner (Err ByteNotAllowed) e ∙ cond-false (eqb b (length xs)) (Err Malformed) (sized (body_of outermost (take b xs)) b) f)))
      (λ e. sym (cond-false (clean xs) inner (Err ByteNotAllowed) e))

  abbrev pub with_size : Result Tag Reason → ℕ → Result (Tag × ℕ) Reason
  with_size (Ok t) n = Ok (t, n)
  with_size (Err e) n = Err e

  sized_is : (o : Option Tag) (n : ℕ) → with_size (ok_or o Malformed) n ≡ sized o n
  sized_is None n = refl
  sized_is (Some t) n = refl

  pub by_body : (n : ℕ) (r : Result Tag Reason) → Ok n ≡ closing xs → r ≡ ok_or (body_of outermost (take n xs)) Malformed → with_size r n ≡ tag_of outermost xs
  by_body n r e f = ap (λ z. with_size z n) f ∙ sized_is (body_of outermost (take n xs)) n ∙ ap from_end e ∙ by_end

-- A shelf of contents is lawful, and shows its texts and blocks faithfully.
use Rattle.std.proofs.Common.{◌≡◌, ℕ, ◌-◌, ◌<◌, ◌≤◌, Bool, true, ◌&&◌, leb, List, [], ◌++◌, length, get_or, drop, replicate, sym, refl, ap, ◌∙◌, subst, ⊎_elim, arith, length-append}
use lib.ListN.{length-replicate, get_or-replicate}
use Rattle.std.proofs.lemmas.List.FromFn.{fill_by_all}
use Rattle.std.proofs.lemmas.List.Elements.{length_all_zip, AllZip-get_or}
use Rattle.std.proofs.lemmas.List.{length-map, get_or_append_left, get_or-append_right, get_or_default, get_or_past}
use Rattle.std.proofs.lemmas.Bool.{and_parts, and_from, leb-true, le-leb, cases_lt}
use Rattle.letters.specs.Letters.{letters, sound}
use Rattle.letters.specs.Spelling.{Spells}
use Rattle.letters.specs.declared.Kind.{Kind}
use Rattle.letters.specs.declared.Kind.TheVariants.{Text, Block}
use Rattle.letters.proofs.Spelled.{spelled_read, read_spelled}
use Rattle.shelf.specs.Shelves.{Meaning, Lawful, largest, chars}
use Rattle.typeset.specs.Words.{words, longest}
use Rattle.typeset.specs.Lines.{spaced, lines, blank_filled}
use Rattle.typeset.specs.Filled.{Filled}
use Rattle.typeset.specs.Rows.{rows}
use Rattle.typeset.specs.Contents.{Content, content, measured, typeset, Present, words_read, ShowsText, ShowsBlock, Starts}
use Rattle.typeset.proofs.Laws.{nothing_lost, only_so}
use Rattle.typeset.proofs.Back.{read_line}
use Rattle.typeset.proofs.Parting.{words_parts}
use Rattle.typeset.proofs.Counts.{lines_count}
use Rattle.typeset.proofs.Rows.{lined, rows_spell}
use Rattle.typeset.proofs.Settable.{Settable, settable, spaced_at}

module _ (inside : ℕ → Bool) (of : ℕ → Content) where
  pub parts_of : (k : ℕ) → (typeset inside of).has k ≡ true → (k ≤ largest) × (inside k ≡ true) × ((of k).good ≡ true)
  parts_of k e =
      let p = and_parts (leb k largest) (inside k && (of k).good) e in
      let q = and_parts (inside k) (of k).good p.1 in
      (leb-true k largest p.0, q.0, q.1)

  pub typeset_lawful : ((k : ℕ) → Settable (of k)) → Lawful (typeset inside of)
  typeset_lawful s = record {
    number = λ k e. (parts_of k e).0;
    narrow = λ k e. omega arith;
    ordered = λ k e. omega (arith, (s k).ordered);
    wide = λ k e. omega arith;
    tall = λ k w f. omega (arith, (s k).some w);
    low = λ k w f. omega arith;
    above = λ k w r c f hr hc. ((s k).seen (parts_of k f.there).2 w r c).0;
    below = λ k w r c f hr hc. ((s k).seen (parts_of k f.there).2 w r c).1;
  }

  -- a line that fits is shown with blanks to the width
  pub line_chars : (k w r : ℕ) → length (get_or ((of k).lines_at w) r []) ≤ w → blank_filled w (get_or ((of k).lines_at w) r []) ≡ chars (typeset inside of) k w r
  line_chars k w r h =
      let t : List ℕ = get_or ((of k).lines_at w) r [] in
      let blanks : List ℕ = replicate (w - length t) 32 in
      let lb : length blanks ≡ w - length t = length-replicate (w - length t) 32 in
      fill_by_all ((typeset inside of).glyph k w r) (t ++ blanks) w 0 (length-append t blanks ∙ omega arith) (λ c hc.
      ⊎_elim
      (λ (p : c < length t). get_or_append_left t blanks 0 c p ∙ get_or_default t c 0 32 p)
      (λ (p : length t ≤ c). get_or-append_right t blanks (length t) c 0 refl p ∙ get_or-replicate (w - length t) (c - length t) 32 0 (omega arith) ∙ sym (get_or_past t c 32 p))
      (cases_lt c (length t)))

-- a width that a content can be set at is no less than its longest part
pub long_enough : (n w : ℕ) → measured n ≤ w → w ≤ 2000 → n ≤ w
long_enough n w h small = omega arith

good_sound : (kind : Kind) (bs : List ℕ) → (content kind bs).good ≡ sound (letters kind bs)
good_sound Text bs = refl
good_sound Block bs = refl

-- the contents that stand in the bytes
abbrev pub shelved : Kind → (ℕ → Bool) → (ℕ → List ℕ) → Meaning
shelved kind inside bytes = typeset inside (λ k. content kind (bytes k))

module _ (inside : ℕ → Bool) (bytes : ℕ → List ℕ) where
  pub present : (kind : Kind) (k : ℕ) → Present kind (shelved kind inside bytes) k (inside k) (bytes k)
  present kind k =
      let all : ℕ → Content = λ j. content kind (bytes j) in
      let good = good_sound kind (bytes k) in
      record {
        on = λ small there cs s.
            let q = spelled_read kind s in
            and_from (leb k largest) (inside k && (all k).good) (le-leb k largest small) (and_from (inside k) (all k).good there (good ∙ ap sound q.0 ∙ q.1));
        small = λ e. (parts_of inside all k e).0;
        lies = λ e. (parts_of inside all k e).1;
        spelled = λ e. read_spelled kind (bytes k) (sym good ∙ (parts_of inside all k e).2);
      }

  pub shelved_lawful : (kind : Kind) → Lawful (shelved kind inside bytes)
  shelved_lawful kind = typeset_lawful inside (λ k. content kind (bytes k)) (λ k. settable kind (bytes k))

  module _ (k : ℕ) where
    abbrev ws : List (List ℕ)
    ws = words (letters Text (bytes k))

    abbrev texts : Meaning
    texts = shelved Text inside bytes

    text_line : (w r : ℕ) → longest ws ≤ w → blank_filled w (spaced (get_or (lines w ws) r [])) ≡ chars texts k w r
    text_line w r h =
        ap (blank_filled w) (sym (spaced_at w ws r)) ∙ line_chars inside (λ j. content Text (bytes j)) k w r ((settable Text (bytes k)).fits w r h)

    text_read : (w r : ℕ) → longest ws ≤ w → get_or (lines w ws) r [] ≡ words (chars texts k w r)
    text_read w r h = sym (read_line (letters Text (bytes k)) w r) ∙ ap words (text_line w r h)

    all_read : (w : ℕ) → longest ws ≤ w → texts.height k w < largest → lines w ws ≡ words_read texts k w
    all_read w h low =
        fill_by_all (λ r. words (chars texts k w r)) (lines w ws) (texts.height k w) [] (omega (arith, length-map (lines w ws) spaced)) (λ r _. text_read w r h)

    pub shows_text : ShowsText texts k (bytes k)
    shows_text = record {
      parted = words_parts (letters Text (bytes k));
      whole = λ w f low. let h = long_enough (longest ws) w f.enough f.small in subst (Filled w ws) (all_read w h low) (nothing_lost ws w h);
      only = λ w ls f low p.
          let h = long_enough (longest ws) w f.enough f.small in
          only_so ws w ls (omega (arith, f.enough)) p ∙ all_read w h low;
      blanks = λ w r f hr. let h = long_enough (longest ws) w f.enough f.small in sym (text_line w r h) ∙ ap (λ l. blank_filled w (spaced l)) (text_read w r h);
      uncut = λ w h. omega (arith, lines_count w (bytes k), length-map (lines w ws) spaced);
      narrow = refl;
      wide = refl;
    }

    abbrev blocks : Meaning
    blocks = shelved Block inside bytes

    pub shows_block : blocks.has k ≡ true → ShowsBlock blocks k (bytes k)
    shows_block e =
        let cs : List ℕ = letters Block (bytes k) in
        let each = rows_spell ((present Block k).spelled e) in
        let same = length_all_zip (Spells Block) (rows (bytes k)) (rows cs) each in
        record {
          parted = lined (bytes k);
          whole = λ w r f hr.
              let h = long_enough (longest (rows cs)) w f.enough f.small in
              let fits = (settable Block (bytes k)).fits w r h in
              (get_or (rows cs) r [], AllZip-get_or (Spells Block) (rows (bytes k)) (rows cs) r [] [] each (omega arith), fits, sym (line_chars inside (λ j. content Block (bytes j)) k w r fits));
          high = λ w. omega arith;
          narrow = refl;
          wide = refl;
        }

  -- the first line from where line r begins, filled with blanks, is line r
  pub line_shown : (kind : Kind) (k w r n start : ℕ) (s out : List ℕ) → s ≡ bytes k → n ≡ w → (content kind (bytes k)).least ≤ w → Starts kind (bytes k) w r start → out ≡ blank_filled n (get_or ((content kind (drop start s)).lines_at n) 0 []) → out ≡ chars (shelved kind inside bytes) k w r
  line_shown kind k w r n start s out es en small at e =
      let fits = (settable kind (bytes k)).fits w r small in
      e ∙ ap (λ b. blank_filled n (get_or ((content kind (drop start b)).lines_at n) 0 [])) es ∙
      ap (λ m. blank_filled m (get_or ((content kind (drop start (bytes k))).lines_at m) 0 [])) en ∙ ap (blank_filled w) at.same ∙
      line_chars inside (λ j. content kind (bytes j)) k w r fits

use Rattle.std.proofs.Common.{◌≡◌, ℕ, ◌+◌, ◌-◌, List, length, take, drop, sym, ap, ◌∙◌, arith, length-take, length-drop}
use borrow.Rule.Slice.PartMut.{put_mid}
use Rattle.std.proofs.lemmas.List.{take_rest}
use Rattle.letters.specs.Letters.{letters}
use Rattle.letters.specs.declared.Kind.TheVariants.{Text}
use Rattle.typeset.specs.Words.{words_from, longest}
use Rattle.typeset.specs.Lines.{filled, first}
use Rattle.typeset.proofs.Filling.{word_at}
use Rattle.typeset.proofs.Overlay.{overlaid, overlay_more, overlay_full, overlay_end, overlay_done}
use Rattle.text.proofs.Scanning.{scanned}
use Rattle.text.proofs.fill.write_text.Goals as goal

pub returns-then-end-out : goal.returns-then-end-out
returns-then-end-out c =
    let i = c.loop-word.invariant in
    let m = scanned c.args.s.now _ _ _ _ _ i.bytes c.in-Some.ensures.steps in
    let full = overlay_full (length c.args.out.now) c.loop-word.col c.loop-word.out _ _ _ _ _ m.scan.found (omega arith) in
    overlay_done (length c.args.out.now) c.args.out.now c.loop-word.out _ (sym full ∙ i.written) c.requires.blank c.requires.fits

pub loop-word-preserved : goal.loop-word-preserved
loop-word-preserved c =
    let i = c.loop-word.invariant in
    let m = scanned c.args.s.now _ _ _ _ _ i.bytes c.in-Some.ensures.steps in
    let s = c.args.s.now in
    let w = length c.args.out.now in
    let col = c.loop-word.col in
    let out = c.loop-word.out in
    let v = c.in-Some.word in
    let n = v.width in
    let wide : col + n - col ≡ n = omega arith in
    let far : col + n + 1 ≡ col + (n + 1) = omega arith in
    let long : length (take (col + n - col) (drop col out)) ≡ n = omega (arith, length-take (col + n - col) (drop col out), length-drop col out, c.loop-word.auto.out) in
    let put : c.write_word.new.out ≡ word_at s v.from n = c.write_word.ensures ∙ ap (λ k. take k (letters Text (take (length s - v.from) (drop v.from s)))) long ∙ ap (λ bs. take n (letters Text bs)) (take_rest s v.from) in
    let more = overlay_more w col out s _ v.from v.to n m.scan.found (omega arith) in
    let of : ℕ → ℕ → List ℕ → ℕ → List ℕ = λ k t bs at. overlaid (put_mid col k out bs) t (first (filled w t (words_from s at))) in
    record {
      can = tt;
      ends = tt;
      bytes = m.bytes_same;
      within = omega arith;
      fits = omega (arith, i.fits, ap longest m.scan.found.first, ap (λ at. longest (words_from s at)) m.scan.next_is);
      written = ap (λ k. of k (col + n + 1) c.write_word.new.out c.next.new.self.at) wide ∙ ap (λ t. of n t c.write_word.new.out c.next.new.self.at) far ∙ ap (λ bs. of n (col + (n + 1)) bs c.next.new.self.at) put ∙ ap (of n (col + (n + 1)) (word_at s v.from n)) m.scan.next_is ∙ sym more ∙ i.written;
    }

pub returns : goal.returns
returns c =
    let i = c.loop-word.invariant in
    let m = scanned c.args.s.now _ _ _ _ _ i.bytes c.in-None.ensures.steps in
    let end = overlay_end (length c.args.out.now) c.loop-word.col c.loop-word.out _ m.scan.1 in
    overlay_done (length c.args.out.now) c.args.out.now c.loop-word.out _ (sym end ∙ i.written) c.requires.blank c.requires.fits

use Rattle.std.proofs.Common.{◌≡◌, ℕ, ◌-◌, ◌≤◌, cond, ◌||◌, ltb, List, length, take, drop, get_or, [], Ok, Err, ap, ◌∙◌, arith}
use Rattle.std.proofs.lemmas.Bool.Decides.{nat_tests}
use Rattle.std.proofs.lemmas.List.{take_rest}
use Rattle.fault.specs.Numbers.{fault}
use Rattle.fault.specs.declared.Reason.TheVariants.{UnfitWidth}
use Rattle.letters.specs.declared.Kind.{Kind}
use Rattle.shelf.specs.Shelves.{widest}
use Rattle.list.specs.Held.{items}
use Rattle.typeset.specs.Lines.{blank_filled}
use Rattle.typeset.specs.Contents.{content}
use Rattle.typeset.proofs.Lawfully.{line_shown, long_enough}
use Rattle.text.specs.Places.{place_at, inside, bytes_of}
use Rattle.text.specs.Readings.{Read}
use Rattle.text.proofs.shelves.FileShelfShelf.line.Goals as goal

-- what an accepted width tells
accepted : (w least high h : ℕ) → Ok h ≡ cond (ltb w least || ltb widest w) (Err (fault UnfitWidth 0)) (Ok high) → (least ≤ w) × (w ≤ widest) × (h ≡ high)
accepted w least high h e = (grind (arith, nat_tests), grind (arith, nat_tests), grind (arith, nat_tests))

pub returns-clause-after : goal.returns-clause-after
returns-clause-after g c =
    let kind = g.C.Contents.KIND in
    let file = c.args.self.now.file.now in
    let ps = items c.args.self.now.places.now in
    let v = c.in_ok-bytes.told in
    let got : Read kind file ps c.args.k c.args.w c.args.r c.in_ok-bytes.bytes.now v = rw c.in_ok-bytes.ensures.ok_part at c.read.ensures in
    let told = got.told in
    let set = accepted c.args.w v.least v.high c.in_ok-high.high c.in_ok-high.ensures in
    let small : (content kind (bytes_of file ps c.args.k)).least ≤ c.args.w = long_enough _ _ (omega (arith, told.least_is, set.0)) set.1 in
    let at = told.start_is small (omega (arith, told.high_is, set.2)) in
    let shown : Kind → List ℕ → List ℕ = λ kd bs. blank_filled (length c.args.out.now) (get_or ((content kd bs).lines_at (length c.args.out.now)) 0 []) in
    let e = c.show.ensures ∙ ap (λ kd. shown kd (take (length c.in_ok-bytes.bytes.now - v.start) (drop v.start c.in_ok-bytes.bytes.now))) c.KIND.ensures ∙ ap (shown kind) (take_rest c.in_ok-bytes.bytes.now v.start) in
    line_shown (λ j. inside file (place_at ps j)) (bytes_of file ps) kind c.args.k c.args.w c.args.r _ v.start _ _ got.bytes c.if-out-w.false small at e

-- Every line of every content stands whole on the page, and all else is blank.
use Rattle.std.proofs.Common.{◌≡◌, ℕ, zero, suc, ◌+◌, ◌-◌, ◌<◌, ◌≤◌, Bool, true, false, cond, List, [], ◌∷◌, length, Some, None, Option, refl, ap, ◌∙◌, ap₂, arith}
use Rattle.std.specs.List.{slice_get}
use Rattle.std.proofs.lemmas.Bool.{cond-true}
use Rattle.std.proofs.lemmas.Bool.Decides.{nat_tests}
use Rattle.shelf.specs.Shelves.{Meaning, widest}
use Rattle.plan.specs.declared.record.Cell.{Cell}
use Rattle.plan.specs.declared.record.Holds.{Holds}
use Rattle.plan.specs.declared.record.Holds.TheVariants.{Content, Inner}
use Rattle.plan.specs.declared.record.Rect.{Rect}
use Rattle.plan.specs.declared.record.Table.{Table}
use Rattle.plan.specs.Planned.{Planned}
use Rattle.laid.specs.Views.{seen}
use Rattle.laid.specs.Fits.{Fits}
use Rattle.laid.specs.Geometry.{Covers}
use Rattle.laid.specs.Page.{shows, shown, page_at}
use Rattle.laid.proofs.Laws.{laid_is_sound}

-- a cell that shows a character holds a content, and its box covers the place
record Shown (b : Rect) (x y : ℕ) (holds : Holds) : Type 0 where
  content : ℕ
  is : holds ≡ Content content
  covers : Covers b x y

cond_some : (b : Bool) (g h : ℕ) → cond b (Some g) None ≡ Some h → b ≡ true
cond_some true g h e = refl
cond_some false g h e = let z : ◌≡◌ {A = ℕ} 0 1 = cc in absurd (omega arith)

shows_covers : (m : Meaning) (b : Rect) (k x y : ℕ) → shows m b k x y ≡ true → Covers b x y
shows_covers m b k x y e = record { from_left = grind (arith, nat_tests); to_right = grind (arith, nat_tests); from_top = grind (arith, nat_tests); to_bottom = grind (arith, nat_tests) }

covers_shows : (m : Meaning) (b : Rect) (k x y : ℕ) → Covers b x y → y - b.top < m.height k b.width → shows m b k x y ≡ true
covers_shows m b k x y c l = grind (arith, nat_tests)

was_shown : (m : Meaning) (b : Rect) (x y : ℕ) (holds : Holds) (g : ℕ) → shown m b x y holds ≡ Some g → Shown b x y holds
was_shown m b x y (Inner u) g e = let z : ◌≡◌ {A = ℕ} 0 1 = cc in absurd (omega arith)
was_shown m b x y (Content k) g e = record { content = k; is = refl; covers = shows_covers m b k x y (cond_some (shows m b k x y) _ g e) }

-- the first cell that shows a character is the one seen
first_shown : (m : Meaning) (cs : List Cell) (x y i : ℕ) (c : Cell) (g : ℕ) → slice_get cs i ≡ Some c → shown m c.rect x y c.holds ≡ Some g →
    ((j : ℕ) (d : Cell) (h : ℕ) → j < i → slice_get cs j ≡ Some d → shown m d.rect x y d.holds ≡ Some h → ⊥) → page_at m cs x y ≡ g
unfolding page_at
first_shown m [] x y i c g e s h = let z : ◌≡◌ {A = ℕ} 0 1 = cc in absurd (omega arith)
first_shown m (d ∷ cs) x y zero c g e s h =
    let q : d ≡ c = cc in
    ap (seen (λ z. z) (page_at m cs x y)) (ap (λ (z : Cell). shown m z.rect x y z.holds) q ∙ s)
first_shown m (d ∷ cs) x y (suc i) c g e s h =
    go (shown m d.rect x y d.holds) (λ k z. h 0 d k (omega arith) refl z)
    ∙ first_shown m cs x y i c g e s (λ j f k l p z. h (suc j) f k (omega arith) p z)
  where
    go : (o : Option ℕ) → ((k : ℕ) → o ≡ Some k → ⊥) → seen (λ z. z) (page_at m cs x y) o ≡ page_at m cs x y
    go None n = refl
    go (Some k) n = absurd (n k refl)

pub contents_are_shown : (m : Meaning) (A : ℕ) (ts : List Table) (cs : List Cell) → A ≤ widest → 0 < length ts → Planned ts cs → Fits m A ts cs →
    (i : ℕ) (c : Cell) (k r j : ℕ) → slice_get cs i ≡ Some c → c.holds ≡ Content k → r < m.height k c.rect.width → j < c.rect.width →
    page_at m cs (c.rect.left + j) (c.rect.top + r) ≡ m.glyph k c.rect.width r j
contents_are_shown m A ts cs small some p f i c k r j e h lr lj =
    let laid = laid_is_sound m A ts cs small some p f in
    let x : ℕ = c.rect.left + j in
    let y : ℕ = c.rect.top + r in
    let tall = laid.room i c k e h in
    let here : Covers c.rect x y = record { from_left = omega arith; to_right = omega arith; from_top = omega arith; to_bottom = omega arith } in
    let dx : x - c.rect.left ≡ j = omega arith in
    let dy : y - c.rect.top ≡ r = omega arith in
    let s : shown m c.rect x y c.holds ≡ Some (m.glyph k c.rect.width r j) =
    ap (shown m c.rect x y) h
    ∙ (cond-true (shows m c.rect k x y) _ None (covers_shows m c.rect k x y here (omega arith)) ∙ ap₂ (λ u v. Some (m.glyph k c.rect.width u v)) dy dx) in
    first_shown m cs x y i c _ e s (λ n d g l q z.
    let w = was_shown m d.rect x y d.holds g z in
    laid.sound.contents_apart n i d c w.content k (λ v. omega arith) q e w.is h x y w.covers here)

pub all_else_is_blank : (m : Meaning) (cs : List Cell) (x y : ℕ) →
    ((i : ℕ) (c : Cell) → slice_get cs i ≡ Some c → shown m c.rect x y c.holds ≡ None) → page_at m cs x y ≡ 32
unfolding page_at
all_else_is_blank m [] x y h = refl
all_else_is_blank m (c ∷ cs) x y h = ap (seen (λ z. z) (page_at m cs x y)) (h 0 c refl) ∙ all_else_is_blank m cs x y (λ i. h (suc i))

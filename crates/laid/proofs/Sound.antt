-- Boxes inside areas inside boxes: everything lies on the page, and no two contents meet.
use Rattle.std.proofs.Common.{◌≡◌, ℕ, zero, suc, ◌+◌, ◌<◌, ◌≤◌, ◌⊎◌, List, Some, sym, refl, ap, ◌∙◌, subst, inl, inr, le_refl, arith}
use Rattle.std.specs.List.{slice_get}
use Rattle.std.proofs.lemmas.Bool.{cases_eq, cases_lt}
use Rattle.plan.specs.declared.record.Cell.{Cell}
use Rattle.plan.specs.declared.record.Holds.TheVariants.{Content, Inner}
use Rattle.plan.specs.declared.record.Rect.{Rect}
use Rattle.laid.specs.Geometry.{Covers, Disjoint, Inside, Sound}
use Rattle.laid.proofs.Plans.{Holder}

-- n tables, their cells, and the area of each table
pub record Geometry (n : ℕ) (cells : List Cell) (area : ℕ → Rect) : Type 0 where
  pub known : (i : ℕ) (c : Cell) → slice_get cells i ≡ Some c → c.table < n
  pub higher : (i : ℕ) (c : Cell) (u : ℕ) → slice_get cells i ≡ Some c → c.holds ≡ Inner u → c.table < u
  pub held : (t : ℕ) → 0 < t → t < n → Holder cells t
  pub inside : (i : ℕ) (c : Cell) → slice_get cells i ≡ Some c → Inside c.rect (area c.table)
  pub nested : (i : ℕ) (c : Cell) (u : ℕ) → slice_get cells i ≡ Some c → c.holds ≡ Inner u → Inside (area u) c.rect
  pub apart : (i k : ℕ) (a b : Cell) → (i ≡ k → ⊥) → slice_get cells i ≡ Some a → slice_get cells k ≡ Some b → a.table ≡ b.table → Disjoint a.rect b.rect

inside_refl : (a : Rect) → Inside a a
inside_refl a = omega arith

inside_trans : (a b c : Rect) → Inside a b → Inside b c → Inside a c
inside_trans a b c h k = omega arith

inside_covers : (a b : Rect) (x y : ℕ) → Inside a b → Covers a x y → Covers b x y
inside_covers a b x y h k = omega arith

-- cell i is cell k, or stands in a table inside it
data Under (cells : List Cell) : ℕ → ℕ → Type 0 where
  here : {i : ℕ} → Under cells i i
  out : {i j k : ℕ} (c d : Cell) → slice_get cells i ≡ Some c → slice_get cells j ≡ Some d → d.holds ≡ Inner c.table → Under cells j k → Under cells i k

-- cell k holds a table with a number up to t
record Via (cells : List Cell) (k t : ℕ) : Type 0 where
  cell : Cell
  table : ℕ
  there : slice_get cells k ≡ Some cell
  holds_it : cell.holds ≡ Inner table
  upto : table ≤ t

module _ (n : ℕ) (cells : List Cell) (area : ℕ → Rect) (g : Geometry n cells area) where
  -- areas lie on the page
  tables_on : (fuel t : ℕ) → t ≤ fuel → t < n → Inside (area t) (area 0)
  tables_on fuel zero f l = inside_refl (area 0)
  tables_on zero (suc t) f l = absurd (omega arith)
  tables_on (suc fuel) (suc t) f l =
      let h = g.held (suc t) (omega arith) l in
      let lower = g.higher h.number h.cell (suc t) h.there h.holds_it in
      inside_trans _ _ _ (g.nested h.number h.cell (suc t) h.there h.holds_it)
      (inside_trans _ _ _ (g.inside h.number h.cell h.there)
      (tables_on fuel h.cell.table (omega arith) (g.known h.number h.cell h.there)))

  -- a cell that another stands under holds a table with at most that one's number
  via : {i k : ℕ} → Under cells i k → (c : Cell) → slice_get cells i ≡ Some c → (i ≡ k) ⊎ Via cells k c.table
  via here c e = inl refl
  via {i} {k} (out {j = j} c d ec ed b u) c' e =
      let s : c' ≡ c = cc in
      let st : c'.table ≡ c.table = ap (λ (z : Cell). z.table) s in
      elim (via u d ed) [
        | inl q ↦ inr (record { cell = d; table = c.table; there = ap (slice_get cells) (sym q) ∙ ed; holds_it = b; upto = omega arith })
        | inr v ↦ inr (record { cell = v.cell; table = v.table; there = v.there; holds_it = v.holds_it; upto = omega (arith, v.upto, g.higher j d c.table ed b) })
      ]

  -- two cells of one table that share a place are one
  level : (i k : ℕ) (a b : Cell) → slice_get cells i ≡ Some a → slice_get cells k ≡ Some b → a.table ≡ b.table →
      (x y : ℕ) → Covers a.rect x y → Covers b.rect x y → Under cells i k
  level i k a b p q e x y ha hb =
      elim (cases_eq i k) [ inl s ↦ subst (Under cells i) s here | inr d ↦ absurd (g.apart i k a b d p q e x y ha hb) ]

  -- where two boxes share a place, the one in the higher table stands under the other
  under : (fuel i k : ℕ) (a b : Cell) → a.table + b.table ≤ fuel → slice_get cells i ≡ Some a → slice_get cells k ≡ Some b → b.table ≤ a.table →
      (x y : ℕ) → Covers a.rect x y → Covers b.rect x y → Under cells i k
  under zero i k a b f p q o x y ha hb = level i k a b p q (omega arith) x y ha hb
  under (suc fuel) i k a b f p q o x y ha hb =
      elim (cases_eq a.table b.table) [
        | inl e ↦ level i k a b p q e x y ha hb
        | inr ne ↦
            let h = g.held a.table (omega arith) (g.known i a p) in
            let j : ℕ = h.number in
            let d : Cell = h.cell in
            let lower : d.table < a.table = g.higher j d a.table h.there h.holds_it in
            let hd : Covers d.rect x y =
            inside_covers (area a.table) d.rect x y (g.nested j d a.table h.there h.holds_it)
            (inside_covers a.rect (area a.table) x y (g.inside i a p) ha) in
            elim (cases_lt d.table b.table) [
              | inl l ↦
                  -- then b stands under d, in a table with a number below that of a's: but d holds a's table
                  elim (via (under fuel k j b d (omega arith) q h.there (omega arith) x y hb hd) b q) [
                    | inl s ↦
                        let same : b ≡ d = let r : slice_get cells k ≡ slice_get cells j = ap (slice_get cells) s in let hh = h.there in cc in
                        absurd (omega (arith, ap (λ (z : Cell). z.table) same))
                    | inr v ↦
                        let hh = h.there in
                        let hb2 = h.holds_it in
                        let vt = v.there in
                        let vh = v.holds_it in
                        let one : v.table ≡ a.table = cc in
                        absurd (omega (arith, v.upto))
                  ]
              | inr l ↦ out a d p h.there h.holds_it (under fuel j k d b (omega arith) h.there q l x y hd hb)
            ]
      ]

  -- a content holds no table
  same_content : (i k : ℕ) (a b : Cell) (z : ℕ) → slice_get cells i ≡ Some a → slice_get cells k ≡ Some b → b.holds ≡ Content z → b.table ≤ a.table →
      (x y : ℕ) → Covers a.rect x y → Covers b.rect x y → i ≡ k
  same_content i k a b z p q e o x y ha hb =
      elim (via (under (a.table + b.table) i k a b (le_refl _) p q o x y ha hb) a p) [
        | inl s ↦ s
        | inr v ↦
            let vt = v.there in
            let vh = v.holds_it in
            let no : ◌≡◌ {A = ℕ} 0 1 = cc in
            absurd (omega arith)
      ]

  contents_part : (i k : ℕ) (a b : Cell) (v w : ℕ) → (i ≡ k → ⊥) → slice_get cells i ≡ Some a → slice_get cells k ≡ Some b →
      a.holds ≡ Content v → b.holds ≡ Content w → Disjoint a.rect b.rect
  contents_part i k a b v w d p q ea eb x y ha hb =
      elim (cases_lt a.table b.table) [
        | inl l ↦ d (sym (same_content k i b a v q p ea (omega arith) x y hb ha))
        | inr l ↦ d (same_content i k a b w p q eb l x y ha hb)
      ]

  pub geometry_is_sound : Sound n cells area
  geometry_is_sound = record {
    tables_on_page = λ t l. tables_on t t (le_refl t) l;
    cells_on_page = λ i c e. inside_trans _ _ _ (g.inside i c e) (tables_on c.table c.table (le_refl _) (g.known i c e));
    contents_apart = contents_part;
  }

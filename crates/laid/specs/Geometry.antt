-- Boxes inside areas inside boxes: what any sheet of nested tables shows, whatever its widths and heights came from.
use Rattle.std.specs.Prelude.{◌≡◌, ℕ, ◌+◌, ◌<◌, ◌≤◌, List, Some, ◌≢◌}
use Rattle.std.specs.List.{slice_get}
use Rattle.plan.specs.declared.record.Cell.{Cell}
use Rattle.plan.specs.declared.record.Holds.TheVariants.{Content}
use Rattle.plan.specs.declared.record.Rect.{Rect}

-- the place in column x and line y lies in the box
pub record Covers (r : Rect) (x y : ℕ) : Type 0 where
  pub from_left : r.left ≤ x
  pub to_right : x < r.left + r.width
  pub from_top : r.top ≤ y
  pub to_bottom : y < r.top + r.height

abbrev pub Disjoint : Rect → Rect → Type 0
Disjoint a b = (x y : ℕ) → Covers a x y → Covers b x y → ⊥

pub record Inside (a b : Rect) : Type 0 where
  pub left_edge : b.left ≤ a.left
  pub right_edge : a.left + a.width ≤ b.left + b.width
  pub top_edge : b.top ≤ a.top
  pub bottom_edge : a.top + a.height ≤ b.top + b.height

-- every area and every box lies on the page, which is the area of table 0, and no two contents meet
pub record Sound (n : ℕ) (cells : List Cell) (area : ℕ → Rect) : Type 0 where
  pub tables_on_page : (t : ℕ) → t < n → Inside (area t) (area 0)
  pub cells_on_page : (i : ℕ) (c : Cell) → slice_get cells i ≡ Some c → Inside c.rect (area 0)
  pub contents_apart : (i k : ℕ) (a b : Cell) (x y : ℕ) → (i ≢ k) → slice_get cells i ≡ Some a → slice_get cells k ≡ Some b →
      a.holds ≡ Content x → b.holds ≡ Content y → Disjoint a.rect b.rect

-- The page: each content in its box, all else blank.
use Rattle.std.specs.Prelude.{ℕ, ◌+◌, ◌-◌, Bool, if◌then◌else◌, ◌&&◌, List, [], ◌∷◌, Some, None, Option, nat_le, nat_lt}
use Rattle.shelf.specs.Shelves.{Meaning}
use Rattle.plan.specs.declared.record.Cell.{Cell}
use Rattle.plan.specs.declared.record.Holds.{Holds}
use Rattle.plan.specs.declared.record.Holds.TheVariants.{Content, Inner}
use Rattle.plan.specs.declared.record.Rect.{Rect}
use Rattle.laid.specs.Views.{seen}

-- content k shows a character of its own in column x and line y, where its box is b
abbrev pub shows : Meaning → Rect → ℕ → ℕ → ℕ → Bool
shows m b k x y =
    (nat_le b.left x && nat_lt x (b.left + b.width)) && ((nat_le b.top y && nat_lt y (b.top + b.height)) && nat_lt (y - b.top) (m.height k b.width))

-- the character that a cell shows in column x and line y of the page, if any
abbrev pub shown : Meaning → Rect → ℕ → ℕ → Holds → Option ℕ
shown m b x y (Content k) = if shows m b k x y then Some (m.glyph k b.width (y - b.top) (x - b.left)) else None
shown m b x y (Inner u) = None

-- the character in column x and line y of the page: that of the cell that shows one, else a blank
unfoldable pub page_at : Meaning → List Cell → ℕ → ℕ → ℕ
page_at m [] x y = 32
page_at m (c ∷ cs) x y = seen (λ g. g) (page_at m cs x y) (shown m c.rect x y c.holds)

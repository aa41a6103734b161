-- All that a list over lent memory holds: its items, and what stands in the places that are not used.
use Rattle.std.specs.Prelude.{ℕ, Bool, ◌||◌, List, [], ◌∷◌, ◌++◌, length, drop, ◌==◌, nat_le, slice_set}
use Rattle.list.specs.Held.{items, spare}
use Rattle.list.specs.declared.store.List as Lent

pub record Stock (A : Type 0) : Type 0 where
  pub items : List A
  pub spare : List A

module _ {A : Type 0} where
  abbrev pub held : Lent.List A → Stock A
  held l = record { items = items l; spare = spare l }

  -- every place is used, or the limit is reached
  abbrev pub full : ℕ → Stock A → Bool
  full limit s = length s.spare == 0 || nat_le limit (length s.items)

  -- x in the first unused place
  abbrev pub with_new : Stock A → A → Stock A
  with_new s x = record { items = s.items ++ x ∷ []; spare = drop 1 s.spare }

  -- x in the place of item i
  abbrev pub with_item : Stock A → ℕ → A → Stock A
  with_item s i x = record { items = slice_set s.items i x; spare = s.spare }

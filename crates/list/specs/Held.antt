-- What a list over lent memory holds, and what its calls leave in every place of that memory.
use Rattle.std.specs.Prelude.{◌≡◌, ℕ, ◌-◌, ◌<◌, Bool, false, [], ◌∷◌, ◌++◌, length, take, drop, Some, None, Option, nat_lt, slice_set}
use Rattle.std.specs.List.{slice_get}
use mathlib.Core.List as L
use Rattle.fault.specs.Numbers.{fault}
use Rattle.fault.specs.declared.Fault.{Fault}
use Rattle.fault.specs.declared.Reason.TheVariants.{Full}
use Rattle.list.specs.declared.store.List.{List}

module _ {A : Type 0} where
  -- the items: what stands at the first places
  abbrev pub items : List A → L.List A
  items l = take l.len l.places.now

  -- what stands at the places that are not used yet
  abbrev pub spare : List A → L.List A
  spare l = drop l.len l.places.now

  -- how many places there are
  abbrev pub room : List A → ℕ
  room l = length l.places.now

  -- a push that was taken: the item stands after the others, in the first unused place, and the places beyond are as before
  pub record Pushed (l : List A) (x : A) (i : ℕ) (m : List A) : Type 0 where
    pub at : i ≡ length (items l)
    pub fits : length (items l) < room l
    pub items_are : items m ≡ items l ++ x ∷ []
    pub spare_are : spare m ≡ drop 1 (spare l)
    pub room_is : room m ≡ room l

  -- a push that was declined: every place is used, and all is as before
  pub record Declined (l : List A) (f : Fault) (m : List A) : Type 0 where
    pub why : f ≡ fault Full 0
    pub full : length (items l) ≡ room l
    pub same : m ≡ l

  -- x in the place of item i: r tells whether there is such an item; all other places are as before
  pub record Put (l : List A) (i : ℕ) (x : A) (m : List A) (r : Bool) : Type 0 where
    pub told : r ≡ nat_lt i (length (items l))
    pub items_are : items m ≡ slice_set (items l) i x
    pub spare_are : spare m ≡ spare l
    pub room_is : room m ≡ room l
    pub same : r ≡ false → m ≡ l

  -- what was taken off stands in the first unused place
  abbrev pub put_back : Option A → L.List A → L.List A
  put_back None xs = xs
  put_back (Some x) xs = x ∷ xs

  -- the last item is taken off, if there is one
  pub record Popped (l : List A) (r : Option A) (m : List A) : Type 0 where
    pub told : r ≡ slice_get (items l) (length (items l) - 1)
    pub items_are : items m ≡ take (length (items l) - 1) (items l)
    pub spare_are : spare m ≡ put_back r (spare l)
    pub room_is : room m ≡ room l

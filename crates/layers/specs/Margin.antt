-- The height of a content inside a margin.
use Rattle.std.specs.Prelude.{ℕ, ◌-◌, ◌*◌, ◌||◌, if◌then◌else◌, Ok, Err, Result, nat_lt}
use Rattle.fault.specs.Numbers.{fault}
use Rattle.fault.specs.declared.Fault.{Fault}
use Rattle.fault.specs.declared.Reason.TheVariants.{NotOnShelf, UnfitWidth}
use Rattle.shelf.specs.Shelves.{Meaning, widest}
use Rattle.shelf.specs.Margins.{grown}

-- the height that content k of m itself has inside a margin of n places, where the whole is set at width w
abbrev pub inner_answer : ℕ → Meaning → ℕ → ℕ → Result ℕ Fault
inner_answer n m k w =
    if m.has k
    then (if nat_lt w (grown n (m.minimum k)) || nat_lt widest w then Err (fault UnfitWidth 0) else Ok (m.height k (w - 2 * n)))
    else Err (fault NotOnShelf 0)

-- What the queries of a shelf answer, as functions of what the shelf means, in the order of the checks.
use Rattle.std.specs.Prelude.{ℕ, Bool, if◌then◌else◌, ◌||◌, List, is_ok, Ok, Err, Result, ◌==◌, nat_lt}
use Rattle.fault.specs.Numbers.{fault}
use Rattle.fault.specs.declared.Fault.{Fault}
use Rattle.fault.specs.declared.Reason.TheVariants.{NotOnShelf, UnfitWidth, PastLastLine, WrongLineLength}
use Rattle.shelf.specs.Shelves.{Meaning, widest, chars}

-- both widths of content k, the minimum first
abbrev pub widths_answer : Meaning → ℕ → Result (ℕ × ℕ) Fault
widths_answer m k = if m.has k then Ok (m.minimum k, m.maximum k) else Err (fault NotOnShelf 0)

-- content k cannot be set at width w
abbrev pub misfits : Meaning → ℕ → ℕ → Bool
misfits m k w = nat_lt w (m.minimum k) || nat_lt widest w

-- the height of content k at width w
abbrev pub height_answer : Meaning → ℕ → ℕ → Result ℕ Fault
height_answer m k w =
    if m.has k
    then (if misfits m k w then Err (fault UnfitWidth 0) else Ok (m.height k w))
    else Err (fault NotOnShelf 0)

-- line r of content k at width w, asked for with a slice of n bytes
abbrev pub line_answer : Meaning → ℕ → ℕ → ℕ → ℕ → Result Unit Fault
line_answer m k w r n =
    if m.has k
    then (if misfits m k w then Err (fault UnfitWidth 0)
    else if nat_lt r (m.height k w) then (if n == w then Ok tt else Err (fault WrongLineLength 0))
    else Err (fault PastLastLine 0))
    else Err (fault NotOnShelf 0)

-- what the slice holds after the answer a: the line, or what it held before
abbrev pub written : Meaning → ℕ → ℕ → ℕ → Result Unit Fault → List ℕ → List ℕ
written m k w r a old = if is_ok a then chars m k w r else old

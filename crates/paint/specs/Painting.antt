-- What a paint answers, and the bytes that it writes.
use Rattle.std.specs.Prelude.{ℕ, ◌+◌, ◌*◌, ◌/◌, ◌%◌, if◌then◌else◌, List, [], ◌∷◌, map, is_ok, None, Ok, Err, Option, Result, ◌==◌, nat_le}
use Rattle.std.specs.List.{range_with_len}
use Rattle.fault.specs.Numbers.{fault}
use Rattle.fault.specs.declared.Fault.{Fault}
use Rattle.fault.specs.declared.Reason.TheVariants.{PastPageEnd, WrongPageLength}
use Rattle.shelf.specs.Shelves.{Meaning}
use Rattle.plan.specs.declared.record.Cell.{Cell}
use Rattle.laid.specs.Views.{seen}
use Rattle.laid.specs.Layout.{unless, missing, misfit_box}
use Rattle.laid.specs.Page.{shown}

-- of a page W wide and H high, `count` lines from the line `first` on, asked for with a slice of so many bytes
abbrev pub paint_answer : Meaning → List Cell → ℕ → ℕ → ℕ → ℕ → ℕ → Result Unit Fault
paint_answer m cs W H first count bytes =
    unless (missing m cs)
    (if nat_le (first + count) H
    then (if bytes == count * (W + 1) then unless (misfit_box m cs) (Ok tt) else Err (fault WrongPageLength 0))
    else Err (fault PastPageEnd 0))

-- the character that a cell shows in column x and line y; a box that reaches past the page's right edge shows nothing, and in a laid sheet none does
abbrev pub shown_on : ℕ → Meaning → Cell → ℕ → ℕ → Option ℕ
shown_on W m c x y = if nat_le (c.rect.left + c.rect.width) W then shown m c.rect x y c.holds else None

unfoldable pub page_on : ℕ → Meaning → List Cell → ℕ → ℕ → ℕ
page_on W m [] x y = 32
page_on W m (c ∷ cs) x y = seen (λ g. g) (page_on W m cs x y) (shown_on W m c x y)

-- byte p of the lines: each line is W characters and a newline
abbrev pub byte_on : ℕ → Meaning → List Cell → ℕ → ℕ → ℕ
byte_on W m cs first p = if p % (W + 1) == W then 10 else page_on W m cs (p % (W + 1)) (first + p / (W + 1))

abbrev pub painted : ℕ → Meaning → List Cell → ℕ → ℕ → List ℕ
painted W m cs first count = map (byte_on W m cs first) (range_with_len 0 (count * (W + 1)))

-- what the slice holds after the answer a: the lines, or what it held before
abbrev pub painted_if : ℕ → Meaning → List Cell → ℕ → ℕ → Result Unit Fault → List ℕ → List ℕ
painted_if W m cs first count a old = if is_ok a then painted W m cs first count else old

-- Which files are set, and how wide and tall.
use Rattle.std.specs.Prelude.{ℕ, max, if◌then◌else◌, List, length, Ok, Err, Result, nat_lt}
use Rattle.fault.specs.Numbers.{fault}
use Rattle.fault.specs.declared.Fault.{Fault}
use Rattle.fault.specs.declared.Reason.TheVariants.{NotOnShelf, UnfitWidth, FileTooLong}
use Rattle.letters.specs.Verdicts.{verdict}
use Rattle.letters.specs.declared.Kind.TheVariants.{Text}
use Rattle.shelf.specs.Shelves.{Meaning}
use Rattle.shelf.specs.Answers.{misfits}
use Rattle.specimen.specs.declared.size.Size.{Size}

-- at most 32,768 bytes, and each of them one of a text
abbrev pub judgement : List ℕ → Result Unit Fault
judgement file = if nat_lt 32768 (length file) then Err (fault FileTooLong 0) else verdict Text file

-- 60 columns, or the minimum if that is larger
abbrev pub set_width : Meaning → ℕ
set_width m = max (m.minimum 0) 60

-- content 0 at that width
abbrev pub size_answer : Meaning → Result Size Fault
size_answer m =
    if m.has 0
    then (if misfits m 0 (set_width m) then Err (fault UnfitWidth 0)
    else Ok (record { least = m.minimum 0; most = m.maximum 0; width = set_width m; height = m.height 0 (set_width m) }))
    else Err (fault NotOnShelf 0)

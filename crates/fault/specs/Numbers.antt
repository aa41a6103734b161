-- The number of each refusal, and a refusal with its place.
use Rattle.std.specs.Prelude.{ℕ}
use Rattle.fault.specs.declared.Fault.{Fault}
use Rattle.fault.specs.declared.Reason.{Reason}
use Rattle.fault.specs.declared.Reason.TheVariants.{OutOfRange, NotFound, AlreadyStarted, NoRow, NoFreeColumns, PastLastRow, Full, NotLaid, NotOnShelf, TooWide, TooTall, PastPageEnd, WrongPageLength, UnfitWidth, PastLastLine, WrongLineLength, FileTooLong, ByteNotAllowed, Malformed, Misplaced, MixedContent, Unfinished}

-- the number under which the table of refusals lists the reason
abbrev pub number_of : Reason → ℕ
number_of OutOfRange = 1
number_of NotFound = 2
number_of AlreadyStarted = 3
number_of NoRow = 4
number_of NoFreeColumns = 5
number_of PastLastRow = 6
number_of Full = 7
number_of NotLaid = 8
number_of NotOnShelf = 9
number_of TooWide = 10
number_of TooTall = 11
number_of PastPageEnd = 12
number_of WrongPageLength = 13
number_of UnfitWidth = 14
number_of PastLastLine = 15
number_of WrongLineLength = 16
number_of FileTooLong = 17
number_of ByteNotAllowed = 18
number_of Malformed = 19
number_of Misplaced = 20
number_of MixedContent = 21
number_of Unfinished = 22

abbrev pub fault : Reason → ℕ → Fault
fault why at = record { reason = why; place = at }

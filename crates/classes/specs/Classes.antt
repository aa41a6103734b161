-- The class of a byte, by ranges.
use Rattle.std.specs.Prelude.{ℕ, Bool, if◌then◌else◌, ◌&&◌, ◌||◌, ◌==◌, nat_le}
use Rattle.classes.specs.declared.Class.{Class}
use Rattle.classes.specs.declared.Class.TheVariants.{White, Letter, Digit, Less, Greater, Ampersand, Quote, Equals, Slash, Printable, Forbidden}

abbrev pub from_to : ℕ → ℕ → ℕ → Bool
from_to low high b = nat_le low b && nat_le b high

-- tab, newline, carriage return and blank
abbrev pub white : ℕ → Bool
white b = b == 9 || (b == 10 || (b == 13 || b == 32))

-- white space, letters of either case and digits; < > & " = / each for itself; what else can be printed; all else is forbidden
abbrev pub class_of : ℕ → Class
class_of b =
    if white b then White
    else if from_to 65 90 b || from_to 97 122 b then Letter
    else if from_to 48 57 b then Digit
    else if b == 60 then Less
    else if b == 62 then Greater
    else if b == 38 then Ampersand
    else if b == 34 then Quote
    else if b == 61 then Equals
    else if b == 47 then Slash
    else if from_to 33 126 b then Printable else Forbidden

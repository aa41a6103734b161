-- What the types of the code stand for, and what is left of the bytes once a value is read.
use Rattle.std.specs.Prelude.{ℕ, Bool, if◌then◌else◌, List, length, take, drop, find, Some, None, Ok, Err, Option, Result, ◌==◌}
use Rattle.std.specs.Option.{option_map}
use Rattle.std.specs.Borrow.{Bor}
use Rattle.std.specs.Str.{str_eq_ignore_ascii_case}
use Rattle.classes.specs.Classes.{white}
use Rattle.fault.specs.declared.Reason.{Reason}
use Rattle.fault.specs.declared.Reason.TheVariants.{ByteNotAllowed, Malformed}
use Rattle.markup.specs.declared.spans.Span.{Span}
use Rattle.markup.specs.declared.spans.Span.TheVariants.{White, Letters, Digits}
use Rattle.markup.specs.declared.values.Given as code_given
use Rattle.markup.specs.Attributes.{Given}
use Rattle.markup.specs.Spans.{letter, digit}
use Rattle.markup.specs.Tags.{before, all_allowed}

-- which bytes such a run is made of
abbrev pub in_span : Span → ℕ → Bool
in_span White = white
in_span Letters = letter
in_span Digits = digit

-- what stands beside the first word that the bytes spell, in either case
abbrev pub spelled : {T : Type 0} → List (List ℕ × T) → List ℕ → Option T
spelled ws bs = option_map (λ w. w.1) (find (λ w. str_eq_ignore_ascii_case bs w.0) ws)

-- an attribute with its value; `with_given` reads no size
abbrev pub as_given : code_given.Given → Given
as_given g = record { name = g.name; value = g.value; size = 0 }

-- what was read, and the bytes after it
abbrev pub and_rest : {T : Type 0} → Option (T × Bor (List ℕ)) → Option (T × List ℕ)
and_rest None = None
and_rest (Some p) = Some (p.0, p.1.now)

-- what takes so many bytes, and those after it
abbrev pub left : {T : Type 0} → List ℕ → Option (T × ℕ) → Option (T × List ℕ)
left bs None = None
left bs (Some p) = Some (p.0, drop p.1 bs)

abbrev pub given_left : List ℕ → Option Given → Option (code_given.Given × List ℕ)
given_left bs None = None
given_left bs (Some g) = Some (record { name = g.name; value = g.value }, drop g.size bs)

-- where a tag ends, if all bytes before are allowed
abbrev pub closed : List ℕ → Option ℕ
closed bs = if all_allowed (take (before bs) bs) then Some (before bs) else None

-- a byte that is not allowed, or no end at all
abbrev pub closed_within : Option ℕ → ℕ → Result ℕ Reason
closed_within None m = Err ByteNotAllowed
closed_within (Some n) m = if n == m then Err Malformed else Ok n

abbrev pub closing : List ℕ → Result ℕ Reason
closing bs = closed_within (closed bs) (length bs)

-- Which bytes are refused in a content, and why.
use Rattle.std.specs.Prelude.{◌≡◌, ℕ, zero, suc, ◌+◌, ◌<◌, Bool, false, if◌then◌else◌, not, ◌&&◌, ◌||◌, List, [], ◌∷◌, length, take, drop, Ok, Err, Result, ◌==◌}
use Rattle.fault.specs.Numbers.{fault}
use Rattle.fault.specs.declared.Fault.{Fault}
use Rattle.fault.specs.declared.Reason.{Reason}
use Rattle.fault.specs.declared.Reason.TheVariants.{ByteNotAllowed, Malformed}
use Rattle.classes.specs.Classes.{from_to}
use Rattle.letters.specs.declared.Kind.{Kind}
use Rattle.letters.specs.Letters.{allowed, letter_of, letters}
use Rattle.letters.specs.Spelling.{Spells}

module _ (kind : Kind) where
  -- small letters that end at a byte that is not allowed
  abbrev pub ends_badly : List ℕ → Bool
  ends_badly [] = false
  ends_badly (b ∷ bs) = if from_to 97 122 b then ends_badly bs else not (allowed kind b)

  -- why no character begins here: < is malformed, and so is & unless the byte that ends its name is not allowed; any other byte is not allowed
  abbrev pub reason_of : List ℕ → Reason
  reason_of [] = ByteNotAllowed
  reason_of (b ∷ bs) = if b == 60 || (b == 38 && not (ends_badly bs)) then Malformed else ByteNotAllowed

  -- the verdict on the bytes after the first n, which stand in the file from the byte at on
  abbrev pub verdict_after : ℕ → ℕ → List ℕ → Result Unit Fault
  verdict_after n at [] = Ok tt
  verdict_after zero at (b ∷ bs) =
      if (letter_of kind (b ∷ bs)).0 == 0 then Err (fault (reason_of (b ∷ bs)) at) else verdict_after (letter_of kind (b ∷ bs)).1 (at + 1) bs
  verdict_after (suc n) at (b ∷ bs) = verdict_after n (at + 1) bs

  -- the first byte that begins no character is refused
  abbrev pub verdict : List ℕ → Result Unit Fault
  verdict s = verdict_after 0 0 s

  -- accepted bytes spell characters; those before a refused one do, and it begins none
  abbrev pub Judged : List ℕ → Result Unit Fault → Type 0
  Judged s (Ok _) = Spells kind s (letters kind s)
  Judged s (Err f) = Spells kind (take f.place s) (letters kind (take f.place s)) × (f.place < length s) × ((letter_of kind (drop f.place s)).0 ≡ 0)

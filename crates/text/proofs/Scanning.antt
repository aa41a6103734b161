-- A step through the words of a text, said of the bytes that were given.
use Rattle.std.proofs.Common.{◌≡◌, ℕ, List, Option, subst}
use Rattle.text.specs.Scans.{Scans}
use Rattle.text.specs.declared.scan.Word.{Word}

pub scanned : (s s0 s2 : List ℕ) (at next : ℕ) (r : Option Word) → s0 ≡ s → Scans s0 at s2 next r → Scans s at s2 next r
scanned s s0 s2 at next r b m = subst (λ x. Scans x at s2 next r) b m

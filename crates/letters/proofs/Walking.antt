-- A step through the characters of bytes, said of the bytes that were given.
use Rattle.std.proofs.Common.{◌≡◌, ℕ, List, Option, subst}
use Rattle.letters.specs.declared.Kind.{Kind}
use Rattle.letters.specs.declared.Letter.{Letter}
use Rattle.letters.specs.Walks.{Moves}

pub moved : (kind kind0 kind2 : Kind) (s s0 s2 : List ℕ) (at next : ℕ) (r : Option (ℕ × Letter)) → kind0 ≡ kind → s0 ≡ s → Moves kind0 s0 at kind2 s2 next r → Moves kind s at kind2 s2 next r
moved kind kind0 kind2 s s0 s2 at next r k b m = subst (λ x. Moves kind x at kind2 s2 next r) b (subst (λ x. Moves x s0 at kind2 s2 next r) k m)

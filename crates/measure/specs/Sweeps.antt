-- What a function says of a column, what it makes of one, and at what it may be called.
use Rattle.std.specs.Prelude.{◌≡◌, ℕ, ◌+◌, ◌-◌, ◌<◌, List, [], ◌∷◌, map}
use Rattle.share.specs.Share.{brings, total}
use Rattle.std.specs.Borrow.{Bor, MutBor}
use Rattle.std.specs.Fn.{Shared}
use Rattle.plan.specs.declared.record.Column.{Column}

-- f says w of each column
abbrev pub Reckons : {F : Type 0} → Shared F (Bor Column × Unit {0}) ℕ → F → (Column → ℕ) → Type 0
Reckons s f w = (c : Bor Column) (n : ℕ) → s.post f (c, tt) n → n ≡ w c.now

-- f makes g of each column
abbrev pub Changes : {F : Type 0} → Shared F (MutBor Column × Unit {0}) (Unit {0} × (MutBor Column × Unit {0})) → F → (Column → Column) → Type 0
Changes s f g = (c d : MutBor Column) → s.post f (c, tt) (tt, (d, tt)) → d.now ≡ g c.now

-- f makes g of a column and its part
abbrev pub Gives : {F : Type 0} → Shared F (MutBor Column × (ℕ × Unit {0})) (Unit {0} × (MutBor Column × Unit {0})) → F → (ℕ → Column → Column) → Type 0
Gives s f g = (c d : MutBor Column) (p : ℕ) → s.post f (c, (p, tt)) (tt, (d, tt)) → d.now ≡ g p c.now

-- f may be called at each column with its part, where b is the sum of the weights before and D that of all
abbrev pub TakesParts : {F : Type 0} → Shared F (MutBor Column × (ℕ × Unit {0})) (Unit {0} × (MutBor Column × Unit {0})) → F → (Column → ℕ) → ℕ → ℕ → ℕ → List Column → Type 0
TakesParts s f w W D b [] = Unit {0}
TakesParts s f w W D b (c ∷ cs) =
    (w c < 65536 → (brings W D (b + w c) - brings W D b < 65536) × ((d : MutBor Column) → d.now ≡ c → s.pre f (d, (brings W D (b + w c) - brings W D b, tt))))
    × TakesParts s f w W D (b + w c) cs

-- an amount W may be dealt over the columns by the weights that f says, and g called at each part
pub record MayDeal {F G : Type 0} (s : Shared F (Bor Column × Unit {0}) ℕ) (f : F) (u : Shared G (MutBor Column × (ℕ × Unit {0})) (Unit {0} × (MutBor Column × Unit {0}))) (g : G) (W : ℕ) (cs : List Column) : Type 0 where
  pub weight : Column → ℕ
  pub weighs : Reckons s f weight
  pub takes : TakesParts u g weight W (total (map weight cs)) 0 cs

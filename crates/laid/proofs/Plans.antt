-- A plan, with what the proofs take from it at hand.
use Rattle.std.proofs.Common.{◌≡◌, ℕ, ◌<◌, List, length, Some, None, Option, refl, arith}
use mathlib.Core.HLevel.{⊥_prop}
use mathlib.Core.Logic.{∥∥₁_elim}
use Rattle.std.specs.List.{slice_get}
use Rattle.plan.specs.declared.record.Cell.{Cell}
use Rattle.plan.specs.declared.record.Table.{Table}
use Rattle.plan.specs.declared.record.Holds.TheVariants.{Inner}
use Rattle.plan.specs.Planned.{Able, Within, Apart, Planned}
use Rattle.laid.specs.Views.{holder_from}
use Rattle.laid.proofs.Members.{Once, found, finds}

-- the cell that holds table t
pub record Holder (cs : List Cell) (t : ℕ) : Type 0 where
  pub number : ℕ
  pub cell : Cell
  pub there : slice_get cs number ≡ Some cell
  pub holds_it : cell.holds ≡ Inner t

pub record Good (ts : List Table) (cs : List Cell) : Type 0 where
  pub able : (t : ℕ) (b : Table) → slice_get ts t ≡ Some b → Able b
  pub known : (i : ℕ) (c : Cell) → slice_get cs i ≡ Some c → c.table < length ts
  pub within : (i : ℕ) (c : Cell) (b : Table) → slice_get cs i ≡ Some c → slice_get ts c.table ≡ Some b → Within c b
  pub higher : (i : ℕ) (c : Cell) (u : ℕ) → slice_get cs i ≡ Some c → c.holds ≡ Inner u → c.table < u
  pub there : (i : ℕ) (c : Cell) (u : ℕ) → slice_get cs i ≡ Some c → c.holds ≡ Inner u → u < length ts
  pub held : (t : ℕ) → 0 < t → t < length ts → Holder cs t
  pub once : Once cs
  pub before : (i k : ℕ) (a b : Cell) → slice_get cs i ≡ Some a → slice_get cs k ≡ Some b → a.holds ≡ Inner b.table → i < k
  pub apart : Apart cs

-- a holder that there is, somewhere, is found by looking
holder_among : (cs : List Cell) (t : ℕ) → ∥ ((k : ℕ) × ((c : Cell) × ((slice_get cs k ≡ Some c) × (c.holds ≡ Inner t)))) ∥₁ →
    (o : Option ℕ) → holder_from t 0 cs ≡ o → Holder cs t
holder_among cs t some None e =
    absurd (∥∥₁_elim some ⊥_prop (λ h.
    let q = (finds t 0 cs h.0 h.1.0 h.1.1.0 h.1.1.1).1 in
    let z : ◌≡◌ {A = ℕ} 0 1 = cc in omega arith))
holder_among cs t some (Some k) e =
    let f = found t 0 cs k e in
    record { number = f.at; cell = f.cell; there = f.there; holds_it = f.holds_it }

pub good : (ts : List Table) (cs : List Cell) → Planned ts cs → Good ts cs
good ts cs p = record {
  able = p.able;
  known = p.known;
  within = p.within;
  higher = λ i c u e h. let n = p.holds i u c e h in (p.held u n.0 n.1).below i c e h;
  there = λ i c u e h. (p.holds i u c e h).1;
  held = λ t l n. holder_among cs t (p.held t l n).some (holder_from t 0 cs) refl;
  once = λ i k a b t e f u v. let n = p.holds i t a e u in (p.held t n.0 n.1).once i k a b e f u v;
  before = λ i k a b e f h. p.later i k b.table a b e f h refl;
  apart = p.apart;
}

-- Two sheets with the same lists and flag are the same.
use Rattle.std.proofs.Common.{◌≡◌}
use mathlib.Core.HLevel.{is_prop→PathP}
use mathlib.Core.Logic.{∥∥₁_prop}
use Rattle.runs.specs.State.{state_of}
use Rattle.runs.specs.Calls.{Reached}
use Rattle.engine.specs.declared.hold.Sheet.{Sheet}

pub same_sheet : (m n : Sheet) → m.tables ≡ n.tables → m.cells ≡ n.cells → m.laid ≡ n.laid → m ≡ n
same_sheet m n p q r = λ i. record {
  tables = p i;
  cells = q i;
  laid = r i;
  reached = is_prop→PathP (λ j. ∥ Reached (state_of (p j) (q j) (r j)) ∥₁) (λ j. ∥∥₁_prop) m.reached n.reached i;
}

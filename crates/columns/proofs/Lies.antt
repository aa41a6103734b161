-- A cell that lies in its tracks.
-- Assumes nothing.
use Rattle.std.proofs.Common.{◌≡◌, ℕ, ◌+◌, ◌≤◌, true, ◌&&◌, eqb, leb, arith}
use Rattle.std.proofs.lemmas.Bool.{leb-true, and_parts}
use Rattle.plan.specs.declared.record.Axis.{Axis}
use Rattle.plan.specs.declared.record.Axis.TheVariants.{Columns, Rows}
use Rattle.plan.specs.declared.record.Cell.{Cell}
use Rattle.plan.specs.Steps.{from_to}
use Rattle.columns.specs.Tables.{first_of, span_of, widest_span, lies_in}

-- no cell spans more than 64 tracks
pub widest_le : (x : Axis) → widest_span x ≤ 64
widest_le Columns = omega arith
widest_le Rows = omega arith

-- it spans at least one track, no more than a cell may, and none past the last
pub lies_fit : (x : Axis) (t n : ℕ) (c : Cell) → lies_in x t n c ≡ true → (1 ≤ span_of x c) × (span_of x c ≤ widest_span x) × (first_of x c + span_of x c ≤ n)
lies_fit x t n c e =
    let within = leb (first_of x c + span_of x c) n in
    let ranged = from_to 1 (widest_span x) (span_of x c) in
    let one = and_parts (eqb c.table t) (ranged && within) e in
    let two = and_parts ranged within one.1 in
    let three = and_parts (leb 1 (span_of x c)) (leb (span_of x c) (widest_span x)) two.0 in
    (leb-true _ _ three.0, leb-true _ _ three.1, leb-true _ _ two.1)

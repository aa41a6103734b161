use Rattle.std.proofs.Common.{◌≡◌, ◌++◌, map, take, drop}
use Rattle.plan.specs.declared.record.Column.{Column}
use Rattle.measure.specs.Sweeps.{Changes}
use Rattle.measure.proofs.sweep.each.Given as goal

-- the columns that are done, and the others as they will be
abbrev pub invariant-loop-c : goal.invariant-loop-c
invariant-loop-c g l =
    goal.F-IsAlwaysCallable g l.f
    × ((h : Column → Column) → Changes g.F.Fn l.f h → take l.c-index l.cols ++ map h (drop l.c-index l.cols) ≡ map h l.initial.cols)

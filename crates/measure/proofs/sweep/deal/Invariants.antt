use Rattle.std.proofs.Common.{◌≡◌, ℕ, ◌+◌, ◌*◌, ◌≤◌, ◌++◌, map, take, drop}
use Rattle.share.specs.Share.{total}
use Rattle.plan.specs.declared.record.Column.{Column}
use Rattle.measure.specs.Sweeps.{Reckons, Gives, TakesParts}
use Rattle.measure.proofs.Deal.{dealt}
use Rattle.measure.proofs.sweep.deal.Given as goal

abbrev pub invariant-loop-c : goal.invariant-loop-c
invariant-loop-c g l =
    record {
      callable : goal.W-IsAlwaysCallable g l.weight;
      small : l.before ≤ 65535 * l.c-index;
      rest : (w : Column → ℕ) × Reckons g.W.Fn l.weight w × TakesParts g.G.Fn l.give w l.amount l.sum l.before (drop l.c-index l.cols)
          × (l.before + total (map w (drop l.c-index l.cols)) ≡ l.sum);
      deal : (w : Column → ℕ) (f : ℕ → Column → Column) → Reckons g.W.Fn l.weight w → Gives g.G.Fn l.give f →
          take l.c-index l.cols ++ dealt w f l.amount l.sum l.before (drop l.c-index l.cols) ≡ dealt w f l.amount l.sum 0 l.initial.cols;
    }

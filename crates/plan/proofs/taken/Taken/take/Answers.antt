use Rattle.std.proofs.Common.{◌+◌, ◌≤◌, length, refl, ap, arith}
use Rattle.plan.proofs.Raised.{raised_filled}
use Rattle.plan.proofs.taken.Taken.take.Goals as goal

pub returns : goal.returns
returns c =
    let xs = c.args.self.now.until in
    let h : c.args.j + c.args.span.across ≤ length xs = omega arith in
    ap (λ until. record { until = until }) (raised_filled xs c.fill.new.self c.args.j c.args.span.across _ c.args.until refl h (c.fill.ensures.after (λ y e. e)))

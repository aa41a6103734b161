use Rattle.std.proofs.Common.{◌+◌, ◌<◌, ◌≤◌, length, sym, ap, ◌∙◌, inl, inr, arith, length-take-le}
use Rattle.std.specs.Bool.{then_some}
use Rattle.plan.proofs.Spots.{spot_none, spot_short, spot_at}
use Rattle.plan.proofs.taken.Taken.spot.Goals as goal

pub returns-in_err-j : goal.returns-in_err-j
returns-in_err-j c =
    let xs = c.args.self.now.until in
    c.from_residual.ensures ∙ spot_none xs c.args.row c.args.count c.args.span.across (omega arith) c.args.span.some (sym c.in_err-j.ensures)

pub returns-in_err-under : goal.returns-in_err-under
returns-in_err-under c =
    let xs = c.args.self.now.until in
    let there : c.args.count ≤ length xs = omega arith in
    let h : c.args.count < c.in_ok-j.j + c.args.span.across = elim c.in_err-under.ensures.lookup.0 [ inl e ↦ absurd (omega arith) | inr e ↦ omega (arith, length-take-le c.args.count xs there) ] in
    c.from_residual-in_err-under.ensures ∙ spot_short xs c.args.row c.args.count c.args.span.across there c.args.span.some c.in_ok-j.j (sym c.in_ok-j.ensures) h

pub returns : goal.returns
returns c =
    let xs = c.args.self.now.until in
    let there : c.args.count ≤ length xs = omega arith in
    let under = c.in_ok-under.ensures.lookup.0 in
    let h : c.in_ok-j.j + c.args.span.across ≤ c.args.count = omega (arith, under.1, length-take-le c.args.count xs there) in
    c.then_some.ensures ∙
    ap (λ b. then_some b c.in_ok-j.j) c.are_open.ensures ∙
    spot_at xs c.args.row c.args.count c.args.span.across there c.args.span.some c.in_ok-j.j c.in_ok-under.under.now (sym c.in_ok-j.ensures) h under.2 (omega (arith, under.3))

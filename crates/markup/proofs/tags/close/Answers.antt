use Rattle.std.proofs.Common.{length, sym, ◌∙◌, arith}
use Rattle.markup.proofs.Ends.{at_greater, at_forbidden, at_other, at_end, is_closed, not_closed}
use Rattle.markup.proofs.Forms.{closes, forbids, goes_on}
use Rattle.markup.proofs.tags.close.Goals as goal

pub returns-in-Greater : goal.returns-in-Greater
returns-in-Greater c =
    let xs = c.args.rest.now in
    let n = c.loop-n.n in
    let e = at_greater xs n (omega arith) c.in-Greater.ensures in
    record { value = closes xs n (omega arith) (is_closed xs n (omega arith) (sym c.loop-n.invariant.1 ∙ e.1)); within = omega arith }

pub returns-in-Forbidden : goal.returns-in-Forbidden
returns-in-Forbidden c =
    let e = at_forbidden c.args.rest.now c.loop-n.n (omega arith) c.in-Forbidden.ensures in
    record { value = forbids c.args.rest.now (not_closed c.args.rest.now (sym c.loop-n.invariant.1 ∙ e)); within = tt }

pub loop-n-preserved : goal.loop-n-preserved
loop-n-preserved c =
    let e = at_other c.args.rest.now c.loop-n.n (omega arith) c.class_of.result c.class_of.ensures c.in_default.not-Greater c.in_default.not-Forbidden in
    (omega arith, sym e.1 ∙ c.loop-n.invariant.1)

pub returns : goal.returns
returns c =
    let xs = c.args.rest.now in
    let e = at_end xs c.loop-n.n (omega arith) in
    record { value = goes_on xs (is_closed xs (length xs) (omega arith) (sym c.loop-n.invariant.1 ∙ e.1)); within = tt }

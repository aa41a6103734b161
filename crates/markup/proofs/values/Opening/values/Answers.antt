use Rattle.std.proofs.Common.{length, Some, None, sym, ap, ◌∙◌, arith}
use Rattle.std.proofs.lemmas.Bool.{eqb-true, eqb-false}
use Rattle.markup.specs.Tags.{may}
use Rattle.markup.proofs.Steps.{spaced, given_after, blank, unspaced, not_given, given_then}
use Rattle.markup.proofs.values.Opening.values.Goals as goal

pub returns-then-white-rest : goal.returns-then-white-rest
returns-then-white-rest c =
    let xs = c.loop-rest.rest.now in
    let f = may c.args.self.outermost c.args.self.name in
    blank f c.loop-rest.values xs c.split_run.result.0.now c.split_run.ensures.run (omega arith) ∙ c.loop-rest.invariant

pub returns-then-is_empty : goal.returns-then-is_empty
returns-then-is_empty c =
    let xs = c.loop-rest.rest.now in
    let f = may c.args.self.outermost c.args.self.name in
    let e = eqb-true (length c.split_run.result.0.now) 0 (sym c.if-is_empty.ensures) in
    unspaced f c.loop-rest.values xs c.split_run.result.0.now c.split_run.ensures.run e (λ k. omega arith) ∙ c.loop-rest.invariant

pub returns-in_err-given : goal.returns-in_err-given
returns-in_err-given c =
    let xs = c.loop-rest.rest.now in
    let f = may c.args.self.outermost c.args.self.name in
    let s = spaced xs c.split_run.result.0.now c.split_run.ensures.run (eqb-false (length c.split_run.result.0.now) 0 (sym c.if-is_empty.ensures)) (λ e. omega arith) in
    c.from_residual.ensures ∙ not_given f c.loop-rest.values xs s (c.in_err-given.ensures.value ∙ ap given_after c.split_run.ensures.rest) ∙ c.loop-rest.invariant

pub returns-in_err-values : goal.returns-in_err-values
returns-in_err-values c =
    let xs = c.loop-rest.rest.now in
    let f = may c.args.self.outermost c.args.self.name in
    let s = spaced xs c.split_run.result.0.now c.split_run.ensures.run (eqb-false (length c.split_run.result.0.now) 0 (sym c.if-is_empty.ensures)) (λ e. omega arith) in
    let d = c.in_ok-given.ensures.value ∙ ap given_after c.split_run.ensures.rest in
    c.from_residual-in_err-values.ensures ∙ given_then f c.loop-rest.values xs c.in_ok-given.given c.in_ok-given.after.now None s d c.in_err-values.ensures ∙ c.loop-rest.invariant

pub loop-rest-preserved : goal.loop-rest-preserved
loop-rest-preserved c =
    let xs = c.loop-rest.rest.now in
    let f = may c.args.self.outermost c.args.self.name in
    let s = spaced xs c.split_run.result.0.now c.split_run.ensures.run (eqb-false (length c.split_run.result.0.now) 0 (sym c.if-is_empty.ensures)) (λ e. omega arith) in
    let d = c.in_ok-given.ensures.value ∙ ap given_after c.split_run.ensures.rest in
    given_then f c.loop-rest.values xs c.in_ok-given.given c.in_ok-given.after.now (Some c.in_ok-values.values) s d c.in_ok-values.ensures ∙ c.loop-rest.invariant

use Rattle.std.proofs.Common.{◌∙◌, drop, Some, ap}
use Rattle.std.specs.Bool.{then_some}
use Rattle.markup.specs.declared.record.Tag.TheVariants.{End}
use Rattle.markup.specs.Spans.{letter, front}
use Rattle.markup.specs.Tags.{name_of, ending_of}
use Rattle.markup.proofs.Forms.{ended_by}
use Rattle.markup.proofs.tags.ending_of.Goals as goal

pub returns : goal.returns
returns c =
    let bs = c.args.body.now in
    let rest = c.split_run.result.1.now in
    let name = c.in_ok-name.name in
    c.then_some.ensures ∙
    ap (λ t. then_some t (End name)) c.is_empty.ensures ∙
    ended_by name rest c.split_run-2.result.1.now c.split_run-2.ensures.rest ∙
    ap (λ z. ending_of z (Some name)) c.split_run.ensures.rest ∙
    ap (ending_of (drop (front letter bs) bs)) (c.in_ok-name.ensures ∙ ap name_of c.split_run.ensures.run)

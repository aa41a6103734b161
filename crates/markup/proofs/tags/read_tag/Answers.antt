use Rattle.std.proofs.Common.{Ok, Err, ap, ◌∙◌}
use Rattle.std.specs.Option.{ok_or}
use Rattle.std.proofs.lemmas.Result.{err_from_is_err_and, IfOk-from_err}
use Rattle.fault.specs.declared.Reason.TheVariants.{Malformed}
use Rattle.markup.proofs.Firsts.{tags_are}
use Rattle.markup.proofs.Forms.{by_end, from_end, by_body, closed_before}
use Rattle.markup.proofs.tags.read_tag.Goals as goal

pub returns-in_err-n : goal.returns-in_err-n
returns-in_err-n c =
    let xs = c.args.rest.now in
    let p = err_from_is_err_and c.from_residual.result c.from_residual.ensures.1 in
    record {
      value = rw (p.1, p.2) (ap (from_end c.args.outermost xs) c.in_err-n.ensures.value ∙ by_end c.args.outermost xs);
      within = IfOk-from_err _ _ c.from_residual.ensures.0;
      first = tags_are;
    }

pub returns-in_err-tag : goal.returns-in_err-tag
returns-in_err-tag c =
    let xs = c.args.rest.now in
    let p = err_from_is_err_and c.from_residual-in_err-tag.result c.from_residual-in_err-tag.ensures.1 in
    record {
      value = rw (p.1, p.2) (by_body c.args.outermost xs c.in_ok-n.n (Err c.in_err-tag.field-0.0) c.in_ok-n.ensures.value (c.in_err-tag.ensures.value ∙ ap (λ o. ok_or o Malformed) c.body_of.ensures));
      within = IfOk-from_err _ _ c.from_residual-in_err-tag.ensures.0;
      first = tags_are;
    }

pub returns : goal.returns
returns c =
    let xs = c.args.rest.now in
    let n = c.in_ok-n.n in
    record {
      value = by_body c.args.outermost xs n (Ok c.in_ok-tag.tag) c.in_ok-n.ensures.value (c.in_ok-tag.ensures.value ∙ ap (λ o. ok_or o Malformed) c.body_of.ensures);
      within = (closed_before xs n c.in_ok-n.ensures.value, c.in_ok-n.ensures.within);
      first = tags_are;
    }

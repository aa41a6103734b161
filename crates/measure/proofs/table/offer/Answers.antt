use Rattle.std.proofs.Common.{◌≡◌, length, ap, ◌∙◌, arith}
use Rattle.plan.specs.Steps.{columns_of as count_of}
use Rattle.columns.specs.Columns.{overflow_of}
use Rattle.columns.proofs.Lawful.{offers_are_lawful}
use Rattle.measure.specs.Asks.{own_columns}
use Rattle.measure.specs.Widths.{given_of}
use Rattle.measure.proofs.Whole.{part_is, columns_written}
use Rattle.measure.proofs.table.offer.Goals as goal

pub returns : goal.returns
returns c =
    let b = c.args.table.now in
    let n = c.min-n.result in
    let long : length b.columns ≡ 32 = omega arith in
    let is : n ≡ count_of b = c.min-n.ensures in
    let part = part_is b n long is in
    record {
      value = columns_written b n long is (given_of b.spacing c.args.width) c.give.new.cols (c.give.ensures.widths ∙ ap (given_of b.spacing c.args.width) part);
      overflow = c.give.ensures.overflow ∙ ap (λ cs. overflow_of b.spacing cs c.args.width) part;
      lawful = offers_are_lawful b.spacing (own_columns b) c.args.width;
    }

use Rattle.std.proofs.Common.{◌≡◌, length, ap, ◌∙◌, arith}
use Rattle.plan.specs.Steps.{columns_of as count_of}
use Rattle.columns.specs.Columns.{columns_of}
use Rattle.columns.proofs.Lawful.{columns_are_lawful}
use Rattle.measure.specs.Asks.{own_columns, wants, wants_of}
use Rattle.measure.proofs.Walk.{wants_fit}
use Rattle.measure.proofs.Whole.{own_long, part_is, columns_written}
use Rattle.measure.proofs.table.measure_columns.Goals as goal

pub returns : goal.returns
returns c =
    let b = c.args.table.now in
    let n = c.min-n.result in
    let long : length b.columns ≡ 32 = omega arith in
    let is : n ≡ count_of b = c.min-n.ensures in
    let own = own_long b n long is in
    let xs = wants_of c.args.t b c.args.cells.now c.args.asks.now in
    let done =
    c.measure.ensures
    ∙ ap (λ cs. columns_of b.spacing cs (wants c.args.t (length cs) c.args.cells.now c.args.asks.now)) (part_is b n long is)
    ∙ ap (λ m. columns_of b.spacing (own_columns b) (wants c.args.t m c.args.cells.now c.args.asks.now)) own in
    record {
      value = columns_written b n long is (λ cs. columns_of b.spacing cs xs) c.measure.new.cols done;
      lawful = columns_are_lawful b.spacing (own_columns b) xs (rw own (wants_fit c.args.t (count_of b) c.args.cells.now c.args.asks.now));
    }

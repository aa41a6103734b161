use Rattle.std.proofs.Common.{rules}
use Rattle.columns.specs.Columns.{fresh, held}
use Rattle.measure.proofs.Walk.{walks_are_pass}
use Rattle.measure.proofs.pass.Asking.measure.Goals as goal

pub returns : goal.returns
returns c =
    let a = c.args in
    walks_are_pass a.spacing a.self.now.table a.self.now.cells.now a.self.now.asks.now a.cols.now c.each.new.cols c.lift_all.new.cols c.each-2.new.cols c.lift_spans.new.cols
    (c.each.ensures fresh (λ d e k. search rules)) c.lift_all.ensures (c.each-2.ensures held (λ d e k. search rules)) c.lift_spans.ensures

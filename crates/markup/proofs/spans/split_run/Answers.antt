use Rattle.std.proofs.Common.{arith}
use Rattle.markup.specs.Views.{in_span}
use Rattle.markup.proofs.Runs.{front_le}
use Rattle.markup.proofs.spans.split_run.Goals as goal

pub split_at-requires : goal.split_at-requires
split_at-requires c = omega (arith, front_le (in_span c.args.span) c.args.bytes.now)

use Rattle.std.proofs.Common.{refl, arith}
use Rattle.classes.specs.declared.Class.TheVariants.{White}
use Rattle.classes.specs.Classes.{class_of}
use Rattle.classes.proofs.Whole.{table_at}
use Rattle.classes.proofs.class_of.Goals as goal

pub returns : goal.returns
returns c = table_at class_of White _ c.args.b refl (omega arith)

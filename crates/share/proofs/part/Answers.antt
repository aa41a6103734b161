use Rattle.share.proofs.Parts.{shares_are_fair}
use Rattle.share.proofs.part.Goals as goal

pub returns-clause-fair : goal.returns-clause-fair
returns-clause-fair c = shares_are_fair

use Rattle.std.proofs.Common.{map, refl, ◌∙◌}
use Rattle.markup.specs.declared.tags.TheConstants.{NAMES}
use Rattle.markup.proofs.Words.{is_looked_up}
use Rattle.markup.proofs.tags.name_of.Goals as goal

pub returns : goal.returns
returns c = c.spelled.ensures ∙ is_looked_up (map (λ w. (w.0.now, w.1)) NAMES) c.args.letters.now refl

use mathlib.Core.Path.{refl}
use Rattle.share.specs.Share.{parts_from}
use Rattle.columns.specs.Columns.{over, with_parts, meet_minimum, meet_maximum, each_of, spans, pass, sums, widths_of}
use Rattle.figures.proofs.figures_hold.Goals as goal

pub returns : goal.returns
unfolding parts_from over with_parts meet_minimum meet_maximum each_of spans pass sums widths_of
returns c = record { hold = refl; count = refl }

use Rattle.std.proofs.Common.{length, ap, ◌∙◌}
use Rattle.typeset.specs.Words.{words_from}
use Rattle.text.proofs.Counted.{counted}
use Rattle.text.proofs.words.count_words.Goals as goal

pub returns : goal.returns
returns c =
    let (xs, (u, (t, y, end)), n) = c.count.ensures.ran in
    n ∙ counted c.new.result t u xs y end ∙ ap (λ bs. length (words_from bs c.new.result.at)) c.new.ensures.bytes ∙ ap (λ i. length (words_from c.args.s.now i)) c.new.ensures.at

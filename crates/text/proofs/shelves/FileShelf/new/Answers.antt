use Rattle.list.specs.Held.{items}
use Rattle.text.proofs.Kept.{kept}
use Rattle.text.proofs.shelves.FileShelf.new.Goals as goal

pub returns-clause-kept : goal.returns-clause-kept
returns-clause-kept g c = kept g.C.Contents.KIND c.args.file.now (items c.args.places.now)

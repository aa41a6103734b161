-- Nothing of the texts and blocks of a file is lost.
use Rattle.std.proofs.Common.{ℕ, List}
use Rattle.letters.specs.declared.Kind.{Kind}
use Rattle.letters.specs.declared.Kind.TheVariants.{Text, Block}
use Rattle.typeset.proofs.Lawfully.{present, shows_text, shows_block}
use Rattle.text.specs.declared.place.Place.{Place}
use Rattle.text.specs.Places.{place_at, inside, bytes_of, TextsKept, BlocksKept, Kept}

module _ (file : List ℕ) (ps : List Place) where
  pub texts_kept : TextsKept file ps
  texts_kept = record {
    present = present (λ k. inside file (place_at ps k)) (bytes_of file ps) Text;
    shown = shows_text (λ k. inside file (place_at ps k)) (bytes_of file ps);
  }

  pub blocks_kept : BlocksKept file ps
  blocks_kept = record {
    present = present (λ k. inside file (place_at ps k)) (bytes_of file ps) Block;
    shown = shows_block (λ k. inside file (place_at ps k)) (bytes_of file ps);
  }

pub kept : (kind : Kind) (file : List ℕ) (ps : List Place) → Kept kind file ps
kept Text file ps = texts_kept file ps
kept Block file ps = blocks_kept file ps

-- When a list is the characters of a line.
use Rattle.std.proofs.Common.{◌≡◌, ℕ, ◌<◌, List, length, get_or}
use Rattle.std.proofs.lemmas.List.FromFn.{fill_by_all}
use Rattle.shelf.specs.Shelves.{Meaning, chars}

pub same_chars : (m : Meaning) (k w r : ℕ) (xs : List ℕ) → length xs ≡ w → ((c : ℕ) → c < w → get_or xs c 0 ≡ m.glyph k w r c) → xs ≡ chars m k w r
same_chars m k w r xs len each = fill_by_all (m.glyph k w r) xs w 0 len each

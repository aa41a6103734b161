-- The place of a content, and the bytes that stand there.
use Rattle.std.proofs.Common.{◌≡◌, ℕ, zero, suc, ◌+◌, ◌<◌, ◌≤◌, true, false, leb, ◌⊎◌, List, [], ◌∷◌, length, Some, None, Option, MatchOption, Bor, sym, refl, ap, ◌∙◌, ⊎_elim}
use Rattle.std.proofs.lemmas.Bool.{and_from, and_left, and_right, le-leb, lt-leb}
use Rattle.std.specs.List.{slice_get, slice_range}
use Rattle.text.specs.declared.place.Place.{Place}
use Rattle.text.specs.Places.{nowhere, place_at, inside, stretch_of, bytes_of}

pub place_some : (ps : List Place) (k : ℕ) (p : Place) → Some p ≡ slice_get ps k → place_at ps k ≡ p
place_some [] k p e = cc
place_some (q ∷ ps) zero p e = cc
place_some (q ∷ ps) (suc k) p e = place_some ps k p e

pub place_none : (ps : List Place) (k : ℕ) → None ≡ slice_get ps k → place_at ps k ≡ nowhere
place_none [] k e = refl
place_none (q ∷ ps) zero e = cc
place_none (q ∷ ps) (suc k) e = place_none ps k e

module _ (file : List ℕ) (ps : List Place) (k : ℕ) where
  pub missing : None ≡ slice_get ps k → inside file (place_at ps k) ≡ false
  missing e = ap (inside file) (place_none ps k e)

  module _ (p : Place) (e : Some p ≡ slice_get ps k) where
    pub outside : (p.to < p.from) ⊎ (length file < p.to) → inside file (place_at ps k) ≡ false
    outside h =
        ap (inside file) (place_some ps k p e) ∙
        ⊎_elim
        (λ (l : p.to < p.from). and_left (leb p.from p.to) (leb p.to (length file)) (lt-leb p.from p.to l))
        (λ (l : length file < p.to). and_right (leb p.from p.to) (leb p.to (length file)) (lt-leb p.to (length file) l))
        h

    pub within : p.from ≤ p.to → p.to ≤ length file → (inside file (place_at ps k) ≡ true) × (stretch_of file p ≡ bytes_of file ps k)
    within low high =
        let at = place_some ps k p e in
        (ap (inside file) at ∙ and_from (leb p.from p.to) (leb p.to (length file)) (le-leb p.from p.to low) (le-leb p.to (length file) high), ap (stretch_of file) (sym at))

    -- what the file gives for the range of the place
    pub stretched : (r : Option (Bor (List ℕ))) → MatchOption r ((p.to < p.from) ⊎ (length file < p.to)) (λ x. (p.from ≤ p.to) × (p.to ≤ length file) × (x.now ≡ slice_range file p.from p.to) × (length x.now + p.from ≡ p.to)) → MatchOption r (inside file (place_at ps k) ≡ false) (λ x. (inside file (place_at ps k) ≡ true) × (x.now ≡ bytes_of file ps k))
    stretched None h = outside h
    stretched (Some x) h = let w = within h.0 h.1 in (w.0, h.2 ∙ w.1)

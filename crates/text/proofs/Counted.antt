-- As many words are gone through as there are.
use Rattle.std.proofs.Common.{◌≡◌, ℕ, ◌+◌, List, [], ◌∷◌, length, Option, Some, None, ap, ◌∙◌, arith}
use Rattle.std.specs.Iterator.{Yields}
use Rattle.typeset.specs.Words.{words_from}
use Rattle.text.specs.Scans.{Scans}
use Rattle.text.specs.declared.scan.Word.{Word}
use Rattle.text.specs.declared.scan.Words.{Words}

steps : Words → Option Word → Words → Type 0
steps s r t = Scans s.bytes.now s.at t.bytes.now t.at r

-- how many words are left
abbrev pub left : Words → ℕ
left s = length (words_from s.bytes.now s.at)

left_one : (s t : Words) (x : Word) → steps s (Some x) t → left s ≡ 1 + left t
unfolding steps
left_one s t x m =
    let first : left s ≡ 1 + length (words_from s.bytes.now x.to) = ap length m.scan.found.first ∙ omega arith in
    let there : length (words_from s.bytes.now t.at) ≡ length (words_from s.bytes.now x.to) = ap (λ i. length (words_from s.bytes.now i)) m.scan.next_is in
    let same : left t ≡ length (words_from s.bytes.now t.at) = ap (λ bs. length (words_from bs t.at)) m.bytes_same in
    omega arith

left_along : (s : Words) (xs : List Word) (t : Words) → Yields steps s xs t → left s ≡ length xs + left t
left_along s [] t e = ap left e ∙ omega arith
left_along s (x ∷ xs) t (j, m, ys) = omega (arith, left_one s j x m, left_along j xs t ys)

pub counted : (s t u : Words) (xs : List Word) → Yields (λ (s : Words) (r : Option Word) (t : Words). Scans s.bytes.now s.at t.bytes.now t.at r) s xs t → Scans t.bytes.now t.at u.bytes.now u.at None → length xs ≡ left s
unfolding steps
counted s t u xs y end = let none : left t ≡ 0 = ap length end.scan.1 in omega (arith, left_along s xs t y)

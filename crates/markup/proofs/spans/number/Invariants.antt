use Rattle.std.proofs.Common.{◌≡◌, ◌+◌, ◌*◌, ◌^◌, ◌≤◌, drop}
use Rattle.markup.specs.Spans.{number}
use Rattle.markup.proofs.spans.number.Given as goal

abbrev pub invariant-loop-d : goal.invariant-loop-d
invariant-loop-d l = (number l.n (drop l.d-index l.digits) ≡ number 0 l.digits) × (l.n + 23 ≤ 10 ^ l.d-index * 23)

-- One cell after another is looked at, up to the first fault.
use Rattle.std.proofs.Common.{◌≡◌, ℕ, ◌+◌, ◌<◌, ◌≤◌, List, length, get_or, drop, Some, None, Ok, Err, Option, Result, sym, refl, ap, ◌∙◌}
use Rattle.fault.specs.declared.Fault.{Fault}
use Rattle.plan.specs.declared.record.Cell.{Cell}
use Rattle.plan.specs.Blank.{blank_cell}
use Rattle.laid.specs.Views.{seen}
use Rattle.laid.specs.Layout.{unless, first_fault}
use Rattle.laid.proofs.Faults.{fault_turn, fault_end}

abbrev accepted : Result (Unit {0}) Fault
accepted = Ok tt

abbrev declined : Fault → Result (Unit {0}) Fault
declined f = Err f

-- what an answer tells of the fault
fault_told : (o : Option Fault) (f : Fault) → unless o accepted ≡ declined f → o ≡ Some f
fault_told None f e = cc
fault_told (Some g) f e = cc

none_told : (o : Option Fault) (u : Unit {0}) → unless o accepted ≡ Ok u → o ≡ None
none_told None u e = refl
none_told (Some g) u e = cc

module _ (w : ℕ → Cell → Option Fault) (cs : List Cell) (i : ℕ) where
  pub goes_on : i < length cs → first_fault w i (drop i cs) ≡ first_fault w 0 cs → (u : Unit {0}) → unless (w i (get_or cs i blank_cell)) accepted ≡ Ok u →
      first_fault w (i + 1) (drop (i + 1) cs) ≡ first_fault w 0 cs
  goes_on h inv u e = sym (fault_turn w cs i h ∙ ap (seen Some (first_fault w (i + 1) (drop (i + 1) cs))) (none_told _ u e)) ∙ inv

  pub stops : i < length cs → first_fault w i (drop i cs) ≡ first_fault w 0 cs → (f : Fault) → unless (w i (get_or cs i blank_cell)) accepted ≡ declined f →
      declined f ≡ unless (first_fault w 0 cs) accepted
  stops h inv f e =
      let is : first_fault w 0 cs ≡ Some f = sym inv ∙ (fault_turn w cs i h ∙ ap (seen Some (first_fault w (i + 1) (drop (i + 1) cs))) (fault_told _ f e)) in
      sym (ap (λ o. unless o accepted) is)

  pub ends : length cs ≤ i → first_fault w i (drop i cs) ≡ first_fault w 0 cs → accepted ≡ unless (first_fault w 0 cs) accepted
  ends h inv = sym (ap (λ o. unless o accepted) (sym inv ∙ fault_end w cs i h))

-- A sheet as a state, and what it is for a call to do what is wanted of it.
use Rattle.std.specs.Prelude.{◌≡◌, ℕ, Ok, Err, Result}
use Rattle.fault.specs.declared.Fault.{Fault}
use Rattle.runs.specs.State.{State, state_of}
use Rattle.runs.specs.Calls.{Answer, Done, Number, Outcome}
use Rattle.engine.specs.declared.hold.Sheet.{Sheet}

abbrev pub state : Sheet → State
state s = state_of s.tables s.cells s.laid

-- the sheet is then what the outcome says, or the call was declined and every byte is as it was
module _ {A : Type 0} (answer : A → Answer) where
  abbrev pub Did : Result Outcome Fault → Sheet → Sheet → Result A Fault → Type 0
  Did want m n (Ok a) = want ≡ Ok (record { answer = answer a; after = state n })
  Did want m n (Err f) = (want ≡ Err f) × (n ≡ m)

-- a call that answers nothing
abbrev pub DidSo : Result Outcome Fault → Sheet → Sheet → Result Unit Fault → Type 0
DidSo = Did (λ _. Done)

-- a call that answers a number
abbrev pub DidNumber : Result Outcome Fault → Sheet → Sheet → Result ℕ Fault → Type 0
DidNumber = Did Number

-- The form of a tag's attributes as a grammar, and not as a scan.
use Rattle.std.specs.Prelude.{◌≡◌, ℕ, ◌≤◌, Bool, true, List, [], ◌∷◌, ◌++◌, length, Some, ◌≢◌, slice_set}
use Rattle.classes.specs.Classes.{white}
use Rattle.markup.specs.declared.record.Attribute.{Attribute}
use Rattle.markup.specs.Attributes.{Values, no_values, attribute_of, index_of, values_of}
use Rattle.markup.specs.Spans.{letter, digit, number}

-- every byte passes
abbrev pub Only : (ℕ → Bool) → List ℕ → Type 0
Only p [] = Unit {0}
Only p (b ∷ bs) = (p b ≡ true) × Only p bs

-- a value is written in 1 to 5 digits, bare or between two double quotes
pub data ValueWritten : List ℕ → ℕ → Type 0 where
  bare : (ds : List ℕ) → Only digit ds → 1 ≤ length ds → length ds ≤ 5 → ValueWritten ds (number 0 ds)
  quoted : (ds : List ℕ) → Only digit ds → 1 ≤ length ds → length ds ≤ 5 → ValueWritten (34 ∷ (ds ++ (34 ∷ []))) (number 0 ds)

-- attributes with their values are written one after another: white space, letters that spell the name of one that may stand there, "=" and
-- its value; white space may follow the last
pub data AttributesWritten (may : Attribute → Bool) : List ℕ → List (Attribute × ℕ) → Type 0 where
  none : (ws : List ℕ) → Only white ws → AttributesWritten may ws []
  one : (ws name value rest : List ℕ) (a : Attribute) (n : ℕ) (gs : List (Attribute × ℕ)) → Only white ws → 1 ≤ length ws → Only letter name → attribute_of name ≡ Some a → may a ≡ true → ValueWritten value n → AttributesWritten may rest gs → AttributesWritten may (ws ++ (name ++ (61 ∷ (value ++ rest)))) ((a, n) ∷ gs)

-- it is not among them
abbrev pub Absent : Attribute → List (Attribute × ℕ) → Type 0
Absent a [] = Unit {0}
Absent a (g ∷ gs) = (a ≢ g.0) × Absent a gs

-- none stands twice
abbrev pub Once : List (Attribute × ℕ) → Type 0
Once [] = Unit {0}
Once (g ∷ gs) = Absent g.0 gs × Once gs

-- the values with each of them set
abbrev pub all_set : Values → List (Attribute × ℕ) → Values
all_set vs [] = vs
all_set vs (g ∷ gs) = all_set (slice_set vs (index_of g.0) (Some g.1)) gs

-- the bytes are attributes, none twice, with these values and no others
pub record Written (may : Attribute → Bool) (bs : List ℕ) (vs : Values) : Type 0 where
  pub given : List (Attribute × ℕ)
  pub written : AttributesWritten may bs given
  pub once : Once given
  pub gives : vs ≡ all_set no_values given

abbrev pub FormIs : Type 0
FormIs = (may : Attribute → Bool) (bs : List ℕ) (vs : Values) → (values_of may no_values 0 bs ≡ Some vs → Written may bs vs) × (Written may bs vs → values_of may no_values 0 bs ≡ Some vs)

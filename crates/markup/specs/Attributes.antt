-- Attributes: white space, a name, "=", and 1 to 5 digits, bare or in double quotes; no name twice.
use Rattle.std.specs.Prelude.{ℕ, zero, suc, ◌+◌, ◌-◌, Bool, if◌then◌else◌, ◌&&◌, List, [], ◌∷◌, length, take, drop, replicate, is_some, Some, None, codes, Option, ◌==◌, nat_le, nat_lt, slice_index, slice_index_or, slice_set}
use Rattle.classes.specs.Classes.{white}
use Rattle.markup.specs.declared.record.Attribute.{Attribute}
use Rattle.markup.specs.declared.record.Attribute.TheVariants.{Cols, Cellspacing, Width, Cellpadding, Border, Colspan, Rowspan}
use Rattle.markup.specs.Spans.{letter, digit, front, spells, number}

-- the attribute of that name
abbrev pub attribute_of : List ℕ → Option Attribute
attribute_of bs =
    if spells bs (codes "cols") then Some Cols
    else if spells bs (codes "cellspacing") then Some Cellspacing
    else if spells bs (codes "width") then Some Width
    else if spells bs (codes "cellpadding") then Some Cellpadding
    else if spells bs (codes "border") then Some Border
    else if spells bs (codes "colspan") then Some Colspan
    else if spells bs (codes "rowspan") then Some Rowspan
    else None

-- the place of an attribute among the values
abbrev pub index_of : Attribute → ℕ
index_of Cols = 0
index_of Cellspacing = 1
index_of Width = 2
index_of Cellpadding = 3
index_of Border = 4
index_of Colspan = 5
index_of Rowspan = 6

-- the value of each attribute that was given
abbrev pub Values : Type 0
Values = List (Option ℕ)

abbrev pub no_values : Values
no_values = replicate 7 None

abbrev pub value_in : Values → Attribute → Option ℕ
value_in vs a = slice_index_or vs (index_of a) None

-- ---- one attribute

-- 1 to 5 digits: what they come to, and how many bytes they take with what stands around them
abbrev pub bare_value : List ℕ → ℕ → Option (ℕ × ℕ)
bare_value bs n = if nat_le 1 n && nat_le n 5 then Some (number 0 (take n bs), n) else None

abbrev pub quoted_value : List ℕ → ℕ → Option (ℕ × ℕ)
quoted_value bs n = if (nat_le 1 n && nat_le n 5) && (nat_lt n (length bs) && slice_index bs n == 34) then Some (number 0 (take n bs), n + 2) else None

abbrev pub value_of : List ℕ → Option (ℕ × ℕ)
value_of [] = None
value_of (b ∷ bs) = if b == 34 then quoted_value bs (front digit bs) else bare_value (b ∷ bs) (front digit (b ∷ bs))

-- an attribute with its value, and how many bytes it takes
pub record Given : Type 0 where
  pub name : Attribute
  pub value : ℕ
  pub size : ℕ

abbrev pub joined : Option Attribute → Option (ℕ × ℕ) → ℕ → Option Given
joined None v n = None
joined (Some a) None n = None
joined (Some a) (Some p) n = Some (record { name = a; value = p.0; size = n + 1 + p.1 })

-- a name of n letters, "=", and a value
abbrev pub given_at : List ℕ → ℕ → Option Given
given_at bs n = if nat_lt n (length bs) && slice_index bs n == 61 then joined (attribute_of (take n bs)) (value_of (drop (n + 1) bs)) n else None

abbrev pub given_of : List ℕ → Option Given
given_of bs = given_at bs (front letter bs)

-- ---- all of them

-- what comes next after a tag's name or an attribute: the end, an attribute of so many bytes with the white space before it, or what may not stand there
pub data Piece : Type 0 where
  Bad : Piece
  Last : Piece
  One : Given → ℕ → Piece

abbrev pub piece_one : Option Given → ℕ → Piece
piece_one None w = Bad
piece_one (Some g) w = One g (w + g.size)

abbrev pub piece_at : List ℕ → ℕ → Piece
piece_at bs w = if w == 0 then Bad else if w == length bs then Last else piece_one (given_of (drop w bs)) w

-- white space is owed before each attribute, and may stand at the end
abbrev pub piece_of : List ℕ → Piece
piece_of bs = piece_at bs (front white bs)

-- `may` tells which attributes the tag may have
module _ (may : Attribute → Bool) where
  abbrev pub with_given : Values → Given → Option Values
  with_given vs g = if may g.name then (if is_some (value_in vs g.name) then None else Some (slice_set vs (index_of g.name) (Some g.value))) else None

  abbrev pub after_given : Option Values → (Values → Option Values) → Option Values
  after_given None f = None
  after_given (Some vs) f = f vs

  abbrev pub after_piece : Piece → Values → (Values → ℕ → Option Values) → Option Values
  after_piece Bad vs f = None
  after_piece Last vs f = Some vs
  after_piece (One g n) vs f = after_given (with_given vs g) (λ z. f z (n - 1))

  -- the values in the bytes, of which the first k were read
  abbrev pub values_of : Values → ℕ → List ℕ → Option Values
  values_of vs k [] = Some vs
  values_of vs (suc k) (b ∷ bs) = values_of vs k bs
  values_of vs zero (b ∷ bs) = after_piece (piece_of (b ∷ bs)) vs (λ z k. values_of z k bs)

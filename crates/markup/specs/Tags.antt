-- Tags: "<" or "</", a name, attributes, white space if any, and the first ">".
use Rattle.std.specs.Prelude.{ℕ, suc, Bool, true, false, if◌then◌else◌, ◌&&◌, List, [], ◌∷◌, length, take, drop, Some, None, Ok, Err, codes, Option, Result, ◌==◌}
use Rattle.std.specs.Option.{unwrap_or}
use Rattle.fault.specs.declared.Reason.{Reason}
use Rattle.fault.specs.declared.Reason.TheVariants.{ByteNotAllowed, Malformed}
use Rattle.letters.specs.declared.Kind.TheVariants.{Text}
use Rattle.letters.specs.Letters.{allowed}
use Rattle.markup.specs.declared.record.Attribute.{Attribute}
use Rattle.markup.specs.declared.record.Attribute.TheVariants.{Cols, Cellspacing, Width, Cellpadding, Border, Colspan, Rowspan}
use Rattle.markup.specs.declared.record.Name.{Name}
use Rattle.markup.specs.declared.record.Name.TheVariants as name
use Rattle.markup.specs.declared.record.Tag.{Tag}
use Rattle.markup.specs.declared.record.Tag.TheVariants as tag
use Rattle.markup.specs.Spans.{letter, front, spells}
use Rattle.markup.specs.Attributes.{Values, no_values, value_in, values_of}

abbrev pub name_of : List ℕ → Option Name
name_of bs =
    if spells bs (codes "table") then Some name.Table
    else if spells bs (codes "col") then Some name.Column
    else if spells bs (codes "tr") then Some name.Row
    else if spells bs (codes "td") then Some name.Data
    else if spells bs (codes "th") then Some name.Head
    else if spells bs (codes "pre") then Some name.Block
    else None

-- COLS and CELLSPACING stand on every TABLE; WIDTH, CELLPADDING and BORDER only where no table is open
abbrev pub table_may : Bool → Attribute → Bool
table_may outermost Cols = true
table_may outermost Cellspacing = true
table_may outermost Width = outermost
table_may outermost Cellpadding = outermost
table_may outermost Border = outermost
table_may outermost Colspan = false
table_may outermost Rowspan = false

abbrev pub column_may : Attribute → Bool
column_may Cols = false
column_may Cellspacing = false
column_may Width = true
column_may Cellpadding = false
column_may Border = false
column_may Colspan = false
column_may Rowspan = false

abbrev pub cell_may : Attribute → Bool
cell_may Cols = false
cell_may Cellspacing = false
cell_may Width = false
cell_may Cellpadding = false
cell_may Border = false
cell_may Colspan = true
cell_may Rowspan = true

-- which attributes a tag of that name may have
abbrev pub may : Bool → Name → Attribute → Bool
may outermost name.Table a = table_may outermost a
may outermost name.Column a = column_may a
may outermost name.Row a = false
may outermost name.Data a = cell_may a
may outermost name.Head a = cell_may a
may outermost name.Block a = false

-- ---- what the tag says, with the defaults

abbrev pub table_of : Values → Option ℕ → Option Tag
table_of vs None = None
table_of vs (Some cols) =
    Some (tag.Table (record {
      cols = cols;
      spacing = unwrap_or (value_in vs Cellspacing) 1;
      width = unwrap_or (value_in vs Width) 80;
      padding = unwrap_or (value_in vs Cellpadding) 0;
      border = unwrap_or (value_in vs Border) 0;
    }))

abbrev pub cell_of : Bool → Values → Tag
cell_of head vs = tag.Cell (record { head = head; across = unwrap_or (value_in vs Colspan) 1; down = unwrap_or (value_in vs Rowspan) 1 })

-- a TABLE without COLS says nothing
abbrev pub said : Values → Name → Option Tag
said vs name.Table = table_of vs (value_in vs Cols)
said vs name.Column = Some (tag.Column (unwrap_or (value_in vs Width) 0))
said vs name.Row = Some tag.Row
said vs name.Data = Some (cell_of false vs)
said vs name.Head = Some (cell_of true vs)
said vs name.Block = Some tag.Block

-- ---- the form

abbrev pub from_values : Name → Option Values → Option Tag
from_values n None = None
from_values n (Some vs) = said vs n

-- an end tag has no attributes
abbrev pub ended : Name → Option Values → Option Tag
ended n None = None
ended n (Some vs) = Some (tag.End n)

abbrev pub opening_of : Bool → List ℕ → Option Name → Option Tag
opening_of outermost rest None = None
opening_of outermost rest (Some n) = from_values n (values_of (may outermost n) no_values 0 rest)

abbrev pub ending_of : List ℕ → Option Name → Option Tag
ending_of rest None = None
ending_of rest (Some n) = ended n (values_of (λ _. false) no_values 0 rest)

abbrev pub named_opening : Bool → List ℕ → Option Tag
named_opening outermost bs = opening_of outermost (drop (front letter bs) bs) (name_of (take (front letter bs) bs))

abbrev pub named_ending : List ℕ → Option Tag
named_ending bs = ending_of (drop (front letter bs) bs) (name_of (take (front letter bs) bs))

-- what stands between "<" and ">"
abbrev pub body_of : Bool → List ℕ → Option Tag
body_of outermost [] = None
body_of outermost (b ∷ bs) = if b == 47 then named_ending bs else named_opening outermost (b ∷ bs)

-- ---- the tag after a "<"

-- how many bytes stand before the first ">", or all of them where there is none
abbrev pub before : List ℕ → ℕ
before [] = 0
before (b ∷ bs) = if b == 62 then 0 else suc (before bs)

abbrev pub all_allowed : List ℕ → Bool
all_allowed [] = true
all_allowed (b ∷ bs) = allowed Text b && all_allowed bs

-- a tag with how many bytes it has before its ">"
abbrev pub sized : Option Tag → ℕ → Result (Tag × ℕ) Reason
sized None n = Err Malformed
sized (Some t) n = Ok (t, n)

-- a byte that is not allowed comes first; then a tag that is cut off, or of another form
abbrev pub tag_of : Bool → List ℕ → Result (Tag × ℕ) Reason
tag_of outermost rest =
    if all_allowed (take (before rest) rest)
    then (if before rest == length rest then Err Malformed else sized (body_of outermost (take (before rest) rest)) (before rest))
    else Err ByteNotAllowed

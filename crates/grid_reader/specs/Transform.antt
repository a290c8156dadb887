-- The transform of a grid that is finer by a power of ten (TopoJSON 1.0, 2.1.2).
use Rattle.std.specs.Prelude.{ℕ, zero, suc, pos, ◌&&◌, false, List, [], ◌∷◌, ◌++◌, codes, Option, Some, None, if◌then◌else◌, Result, Ok, Err}
use Rattle.json_spans.specs.Common.{Node, items, members, kind_of, decoded}
use Rattle.ring_machine.specs.Common.{Text}
use Rattle.topo_outline.specs.Common.{is_list, is_number, Fault, bad_member, ◌>>=◌}
use Rattle.grid_reader.specs.Fine.{first_two_of}
use Rattle.decimal_texts.specs.Common.{Parts, parts_of, shifted_text}
use Rattle.decimal_texts.specs.Geometries.{is_string_of}

-- ---- what stands in a transform

-- the value of the first member whose name stands for this text
unfoldable pub member_value : List ℕ → List (Node × Node) → Option Node
member_value name [] = None
member_value name (m ∷ ms) = if is_string_of name (decoded m.0.bytes) then Some m.1 else member_value name ms

abbrev pub bad_transform : {A : Type 0} → Result A Fault
bad_transform = Err (bad_member (codes "transform"))

-- the two, where both are numbers
abbrev pub both_numbers : Option (Node × Node) → Option (Node × Node)
both_numbers None = None
both_numbers (Some p) =
    if is_number (kind_of p.0.bytes) && is_number (kind_of p.1.bytes) then Some p else None

-- the items of a list of two numbers
unfoldable pub two_number_nodes : Node → Option (Node × Node)
two_number_nodes n = if is_list n then both_numbers (first_two_of false (items n)) else None

-- what is there
abbrev pub or_bad_transform : {A : Type 0} → Option A → Result A Fault
or_bad_transform None = bad_transform
or_bad_transform (Some a) = Ok a

-- the two numbers of a member that is there
abbrev pub two_in : Option Node → Result (Node × Node) Fault
two_in None = bad_transform
two_in (Some n) = or_bad_transform (two_number_nodes n)

-- a number
abbrev pub number : List ℕ → Result Parts Fault
number t = or_bad_transform (parts_of t)

-- ---- the new one

-- with these numbers as its scale and its translation
abbrev pub new_transform_text : Text → Text → Text → Text → Text
new_transform_text a b c d =
    codes "{\"scale\":[" ++ (a ++ (codes "," ++ (b ++ (codes "],\"translate\":["
    ++ (c ++ (codes "," ++ (d ++ codes "]}")))))))

-- 1, divided by a power of ten
abbrev pub one_shifted : ℕ → Text
one_shifted k = shifted_text k
    (record { is_negative = false; integer = codes "1"; fraction = []; exponent = pos 0 })

-- the scale of a transform divided by 10^k, and its translation; without one, 10^-k and nothing
abbrev pub divided : ℕ → Option Text → Result Text Fault
divided k None = Ok (new_transform_text (one_shifted k) (one_shifted k) (codes "0") (codes "0"))
divided k (Some t) = do
  scale ← two_in (member_value (codes "scale") (members (record { at_byte = 0; bytes = t })))
  a ← number scale.0.bytes
  b ← number scale.1.bytes
  translate ← two_in (member_value (codes "translate") (members (record { at_byte = 0; bytes = t })))
  Ok (new_transform_text (shifted_text k a) (shifted_text k b) translate.0.bytes translate.1.bytes)

-- the transform of a grid that is finer by 10^k: where k is 0, the same
abbrev pub transform_on : ℕ → Option Text → Result (Option Text) Fault
transform_on zero t = Ok t
transform_on (suc k) t = do
  text ← divided (suc k) t
  Ok (Some text)

-- The geometries of a topology (TopoJSON 1.0, 2.2): where they stand in its text. Defined for any
-- bytes.
use Rattle.std.specs.Prelude.{ℕ, zero, suc, ◌||◌, Bool, false, if◌then◌else◌, List, [], ◌∷◌, codes, Option, Some, None}
use Rattle.std.specs.List.{flat_map}
use Rattle.std.specs.Str.{bytes_eq}
use Rattle.json_spans.specs.Common.{Node, items, members, decoded}
use Rattle.decimal_texts.specs.declared.geometries.Shape.{Shape}
use Rattle.decimal_texts.specs.declared.geometries.Shape.TheVariants as shape

-- a string stands for this text (RFC 8259, 7)
abbrev pub is_string_of : List ℕ → Option (List ℕ) → Bool
is_string_of name None = false
is_string_of name (Some t) = bytes_eq t name

abbrev pub says : List ℕ → Node → Bool
says name n = is_string_of name (decoded n.bytes)

-- the value of the first member of this name, as a list of at most one
unfoldable pub value_named : List ℕ → List (Node × Node) → List Node
value_named name [] = []
value_named name (m ∷ ms) = if says name m.0 then (m.1 ∷ []) else value_named name ms

abbrev pub value_in : List ℕ → Node → List Node
value_in name n = value_named name (members n)

-- whether the member `type` of an object is this text
abbrev pub says_type : List ℕ → List Node → Bool
says_type name [] = false
says_type name (n ∷ ns) = says name n

abbrev pub has_type : List ℕ → Node → Bool
has_type name n = says_type name (value_in (codes "type") n)

-- whether a geometry is of this shape: one of it, or several
abbrev pub is_of : Shape → Node → Bool
is_of shape.Points n = has_type (codes "Point") n || has_type (codes "MultiPoint") n
is_of shape.Lines n = has_type (codes "LineString") n || has_type (codes "MultiLineString") n

-- the list of what stands in a collection, as a list of at most one
abbrev pub collected : Node → List Node
collected n =
    if has_type (codes "GeometryCollection") n then value_in (codes "geometries") n else []

-- the geometries of this shape that a geometry is or holds, collections walked depth first; the
-- depth is more than any text of 100 levels has
unfoldable pub geometries_in : Shape → ℕ → Node → List Node
geometries_in s zero n = []
geometries_in s (suc d) n =
    if is_of s n then (n ∷ []) else flat_map (geometries_in s d) (flat_map items (collected n))

-- the geometries of this shape in all layers of a topology
abbrev pub all_geometries : Shape → Node → List Node
all_geometries s root =
    flat_map (λ m. geometries_in s 100 m.1) (flat_map members (value_in (codes "objects") root))

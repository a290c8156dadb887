-- The shape of a topology: its names, its transform, its layers of geometries depth first.
use Rattle.std.specs.Prelude.{ℕ, zero, suc, ◌-◌, ◌&&◌, List, [], ◌∷◌, ◌++◌, length, take, drop, Bool, true, false, not, if◌then◌else◌, codes, Option, Some, None, Result, Ok, Err}
use Rattle.std.specs.List.{list_any, list_all}
use Rattle.std.specs.Str.{bytes_eq}
use Rattle.json_spans.specs.Common.{Node, items, members, kind_of, decoded}
use Rattle.json_spans.specs.declared.kinds.Kind.{Kind}
use Rattle.json_spans.specs.declared.kinds.Kind.TheVariants as kind
use Rattle.ring_machine.specs.Common.{Text, Form}
use Rattle.ring_machine.specs.Document as form
use Rattle.topo_outline.specs.declared.words.Word.{Word}
use Rattle.topo_outline.specs.declared.words.Word.TheVariants as word
use Rattle.topo_outline.specs.declared.words.Geometry.{Geometry}
use Rattle.topo_outline.specs.declared.words.Geometry.TheVariants as geo
use Rattle.topo_outline.specs.declared.members.Owner.{Owner}
use Rattle.topo_outline.specs.declared.members.Owner.TheVariants as owner
use Rattle.topo_outline.specs.Words.{geometry_of}
pub use Rattle.topo_outline.specs.Members.{EntryNode, entry_of, code, member, is_known, kept_text, kept, text_of, head}
pub use Rattle.topo_outline.specs.Layers.{Piece, starts, ends, leaf, text, LayerText, OutlineText}
use Rattle.topo_outline.specs.Faults.{Fault, too_deep, bad_member, duplicate, unsupported, ◌>>=◌, each, demand}

-- ---- the kinds of values

abbrev pub is_list_kind : Kind → Bool
is_list_kind kind.List = true
is_list_kind _ = false

abbrev pub is_list : Node → Bool
is_list n = is_list_kind (kind_of n.bytes)

abbrev pub is_kind_object : Kind → Bool
is_kind_object kind.Object = true
is_kind_object _ = false

abbrev pub is_object : Node → Bool
is_object n = is_kind_object (kind_of n.bytes)

-- ---- names

-- a string's token without its quotes
abbrev pub unquoted : List ℕ → List ℕ
unquoted xs = take (length xs - 1 - 1) (drop 1 xs)

abbrev pub text_from : Fault → Option (List ℕ) → Result (List ℕ) Fault
text_from f None = Err f
text_from f (Some t) = Ok t

-- the text that a name stands for (RFC 8259, 7)
abbrev pub name_text : Node → Result (List ℕ) Fault
name_text n = text_from (bad_member (unquoted n.bytes)) (decoded n.bytes)

-- the members in order, each tested against the texts of those before it
unfoldable pub named : List (List ℕ) → List (Node × Node) → Result (List EntryNode) Fault
named seen [] = Ok []
named seen (m ∷ ms) = do
  t ← name_text m.0
  rest ← demand (not (list_any (bytes_eq t) seen)) (duplicate (unquoted m.0.bytes))
      (named (seen ++ t ∷ []) ms)
  Ok (entry_of t m ∷ rest)

-- the members, where their decoded names differ
abbrev pub members_of : Node → Result (List EntryNode) Fault
members_of n = named [] (members n)

-- a wrong member is named as it stands
abbrev pub wrong : EntryNode → Fault
wrong m = bad_member (unquoted m.name.bytes)

abbrev pub member_if : Bool → EntryNode → Result EntryNode Fault
member_if right m = demand right (wrong m) (Ok m)

-- a missing one by the name expected
abbrev pub there : List ℕ → Option EntryNode → Result EntryNode Fault
there expected None = Err (bad_member expected)
there expected (Some m) = Ok m

abbrev pub named_member : List ℕ → Word → List EntryNode → Result EntryNode Fault
named_member expected w ms = there expected (member w ms)

-- the member with this name, whose value is good
abbrev pub member_that : (Node → Bool) → List ℕ → Word → List EntryNode → Result EntryNode Fault
member_that good expected w ms = do
  m ← named_member expected w ms
  member_if (good m.value) m

-- ---- geometries

-- a polygon's arcs: a list of rings (TopoJSON 1.0, 2.2.5)
abbrev pub are_lists : Node → Bool
are_lists n = is_list n && list_all is_list (items n)

-- the arcs of several polygons (TopoJSON 1.0, 2.2.6)
abbrev pub are_lists_of_lists : Node → Bool
are_lists_of_lists n = is_list n && list_all are_lists (items n)

abbrev pub are_rings : Form → Node → Bool
are_rings form.Polygon n = are_lists n
are_rings form.MultiPolygon n = are_lists_of_lists n
are_rings form.Null n = true

abbrev pub type_text : EntryNode → Kind → Result Geometry Fault
type_text m kind.Null = Ok geo.Null
type_text m kind.Text = do
  t ← text_from (wrong m) (decoded m.value.bytes)
  Ok (geometry_of t)
type_text m _ = Err (wrong m)

-- what `type` says, a string or null, and that member
abbrev pub type_of : List EntryNode → Result (Geometry × EntryNode) Fault
type_of ms = do
  m ← named_member (codes "type") word.Type ms
  g ← type_text m (kind_of m.value.bytes)
  Ok (g, m)

abbrev pub with_rings : Form → List EntryNode → Result Piece Fault
with_rings f ms = do
  m ← member_that (are_rings f) (codes "arcs") word.Arcs ms
  Ok (leaf f (head owner.Rings ms) m.value)

-- a geometry that is no collection
abbrev pub single : Geometry → EntryNode → Node → List EntryNode → Result Piece Fault
single geo.Null m n ms = Ok (leaf form.Null (head owner.Null ms) n)
single geo.Polygon m n ms = with_rings form.Polygon ms
single geo.MultiPolygon m n ms = with_rings form.MultiPolygon ms
single geo.Point m n ms = Ok (text n.bytes)
single _ m n ms = Err (unsupported (unquoted m.value.bytes))

abbrev pub is_collection : Geometry → Bool
is_collection geo.Collection = true
is_collection _ = false

-- one after another, joined
abbrev pub each_joined : {A B : Type 0} → (A → Result (List B) Fault) → List A →
    Result (List B) Fault
each_joined f [] = Ok []
each_joined f (a ∷ as') = do
  xs ← f a
  ys ← each_joined f as'
  Ok (xs ++ ys)

-- a geometry, where a collection's pieces are those of the group
abbrev pub shaped : Node → (List EntryNode → EntryNode → Result (List Piece) Fault) →
    Result (List Piece) Fault
shaped n group = do
  ms ← members_of n
  g ← type_of ms
  if is_collection g.0
      then (member_that is_list (codes "geometries") word.Geometries ms >>= group ms)
      else (single g.0 g.1 n ms >>= λ p. Ok (p ∷ []))

-- a collection's items, depth first; the depth is more than any text of 100 levels has
unfoldable pub geometry : ℕ → Node → Result (List Piece) Fault
geometry zero n = shaped n (λ ms list. Err (too_deep n.at_byte))
geometry (suc d) n = shaped n (λ ms list. do
  ps ← each_joined (λ part. demand (is_object part) (wrong list) (geometry d part))
      (items list.value)
  Ok (starts (head owner.Collection ms) ∷ ps ++ ends ∷ []))

-- ---- layers

unfoldable pub layer : EntryNode → Result LayerText Fault
layer m = demand (is_object m.value) (wrong m) (do
  ps ← geometry 100 m.value
  Ok (record { name = m.name.bytes; pieces = ps }))

abbrev pub layers : Node → Result (List LayerText) Fault
layers n = members_of n >>= each layer

-- ---- the transform

abbrev pub is_number : Kind → Bool
is_number kind.Number = true
is_number _ = false

abbrev pub two_numbers : List Node → Bool
two_numbers (a ∷ b ∷ []) = is_number (kind_of a.bytes) && is_number (kind_of b.bytes)
two_numbers _ = false

abbrev pub are_two_numbers : Option EntryNode → Bool
are_two_numbers None = false
are_two_numbers (Some m) = is_list m.value && two_numbers (items m.value)

-- `scale` and `translate` are lists of two numbers each (TopoJSON 1.0, 2.1.2)
abbrev pub is_transform : List EntryNode → Bool
is_transform ms =
    are_two_numbers (member word.Scale ms) && are_two_numbers (member word.Translate ms)

abbrev pub transform_value : EntryNode → Kind → Result (Option Text) Fault
transform_value m kind.Null = Ok None
transform_value m kind.Object = do
  ms ← members_of m.value
  demand (is_transform ms) (wrong m) (Ok (Some m.value.bytes))
transform_value m _ = Err (wrong m)

-- the transform's text; null stands for none
abbrev pub transform_from : Option EntryNode → Result (Option Text) Fault
transform_from None = Ok None
transform_from (Some m) = transform_value m (kind_of m.value.bytes)

-- ---- the topology

abbrev pub is_topology_word : Geometry → Bool
is_topology_word geo.Topology = true
is_topology_word _ = false

abbrev pub says_topology : Option (List ℕ) → Bool
says_topology None = false
says_topology (Some t) = is_topology_word (geometry_of t)

abbrev pub is_type_text : Kind → Bool
is_type_text kind.Text = true
is_type_text _ = false

-- its `type` is the string "Topology" (TopoJSON 1.0, 2.1)
abbrev pub is_topology : Option EntryNode → Bool
is_topology None = false
is_topology (Some m) =
    is_type_text (kind_of m.value.bytes) && says_topology (decoded m.value.bytes)

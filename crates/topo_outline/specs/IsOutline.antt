-- What the outline of a topology is, by the grammar of JSON and with no order of faults.
use Rattle.std.specs.Prelude.{◌≡◌, ◌≢◌, ℕ, List, [], ◌∷◌, ◌++◌, false, codes, Option, Some, None, option_map}
use Rattle.std.specs.List.{AllPairs}
use Rattle.json_spans.specs.Common.{Node, IsValue, IsText, IsNumber, IsNull, IsListOf, IsObjectOf, IsList, IsListWith}
use Rattle.json_spans.specs.Common.{decoded}
use Rattle.ring_machine.specs.Common.{Text}
use Rattle.ring_machine.specs.Document as form
use Rattle.topo_outline.specs.declared.words.Word.{Word}
use Rattle.topo_outline.specs.declared.words.Word.TheVariants as word
use Rattle.topo_outline.specs.declared.members.Owner.TheVariants as owner
use Rattle.topo_outline.specs.Members.{EntryNode, entry_of, member, kept, head}
use Rattle.topo_outline.specs.Layers.{Piece, starts, ends, leaf, text, LayerText, OutlineText, few}

-- ---- objects

-- the name of each member stands for a text (RFC 8259, 7), by which the member is known
pub data Entries : List (Node × Node) → List (List ℕ) → List EntryNode → Type 0 where
  no_entry : Entries [] [] []
  entry : {m : Node × Node} {t : List ℕ} {ms : List (Node × Node)} {ts : List (List ℕ)}
      {es : List EntryNode} →
      decoded m.0.bytes ≡ Some t → Entries ms ts es → Entries (m ∷ ms) (t ∷ ts) (entry_of t m ∷ es)

-- an object with these members, of whose names no two stand for one text (RFC 8259, 4)
pub record HasEntries (n : Node) (es : List EntryNode) : Type 0 where
  pub members : List (Node × Node)
  pub names : List (List ℕ)
  pub object : IsObjectOf n members
  pub entries : Entries members names es
  pub differ : AllPairs (λ t u. t ≢ u) names

-- the value of the member with this name
abbrev pub value_at : Word → List EntryNode → Option Node
value_at w es = option_map (λ m. m.value) (member w es)

-- the member `type` is a string that stands for this text (TopoJSON 1.0, 2)
pub record HasType (es : List EntryNode) (name : List ℕ) : Type 0 where
  pub value : Node
  pub there : value_at word.Type es ≡ Some value
  pub string : IsText value.bytes
  pub says : decoded value.bytes ≡ Some name

-- ---- the transform

-- a list of two numbers
pub record AreTwoNumbers (n : Node) : Type 0 where
  pub x : Node
  pub y : Node
  pub two : IsListOf n (x ∷ y ∷ [])
  pub x_number : IsNumber x.bytes
  pub y_number : IsNumber y.bytes

-- no transform, null, or the text of an object whose `scale` and `translate` are two numbers each
-- (TopoJSON 1.0, 2.1.2)
pub data IsTransform : Option Node → Option Text → Type 0 where
  no_transform : IsTransform None None
  null_transform : {n : Node} → IsNull n.bytes → IsTransform (Some n) None
  transform : {n scale translate : Node} {es : List EntryNode} →
      HasEntries n es →
      value_at word.Scale es ≡ Some scale → AreTwoNumbers scale →
      value_at word.Translate es ≡ Some translate → AreTwoNumbers translate →
      IsTransform (Some n) (Some n.bytes)

-- ---- geometries

-- a polygon's arcs: a list of rings, each a list (TopoJSON 1.0, 2.2.5)
abbrev pub AreLists : Node → Type 0
AreLists n = IsListWith IsList n

-- the arcs of several polygons (TopoJSON 1.0, 2.2.6)
abbrev pub AreListsOfLists : Node → Type 0
AreListsOfLists n = IsListWith AreLists n

mutual
  -- a geometry object, and its pieces in the order of the text (TopoJSON 1.0, 2.2)
  pub data IsGeometry : Node → List Piece → Type 0 where
    -- an object without geometry: a feature without polygons
    null_geometry : {n value : Node} {es : List EntryNode} →
        HasEntries n es → value_at word.Type es ≡ Some value → IsNull value.bytes →
        IsGeometry n (leaf form.Null (head owner.Null es) n ∷ [])
    -- 2.2.1 and 2.2.2: the whole text is kept
    point : {n : Node} {es : List EntryNode} →
        HasEntries n es → HasType es (codes "Point") →
        IsGeometry n (text n.bytes ∷ [])
    multi_point : {n : Node} {es : List EntryNode} →
        HasEntries n es → HasType es (codes "MultiPoint") →
        IsGeometry n (text n.bytes ∷ [])
    -- 2.2.5
    polygon : {n arcs : Node} {es : List EntryNode} →
        HasEntries n es → HasType es (codes "Polygon") →
        value_at word.Arcs es ≡ Some arcs → AreLists arcs →
        IsGeometry n (leaf form.Polygon (head owner.Rings es) arcs ∷ [])
    -- 2.2.6
    multi_polygon : {n arcs : Node} {es : List EntryNode} →
        HasEntries n es → HasType es (codes "MultiPolygon") →
        value_at word.Arcs es ≡ Some arcs → AreListsOfLists arcs →
        IsGeometry n (leaf form.MultiPolygon (head owner.Rings es) arcs ∷ [])
    -- 2.2.7: `geometries` is a list of geometry objects
    collection : {n list : Node} {es : List EntryNode} {items : List Node} {ps : List Piece} →
        HasEntries n es → HasType es (codes "GeometryCollection") →
        value_at word.Geometries es ≡ Some list → IsListOf list items →
        AreGeometries items ps →
        IsGeometry n (starts (head owner.Collection es) ∷ ps ++ ends ∷ [])

  -- geometry objects one after another, and their pieces joined
  pub data AreGeometries : List Node → List Piece → Type 0 where
    no_geometry : AreGeometries [] []
    geometry : {n : Node} {ns : List Node} {ps qs : List Piece} →
        IsGeometry n ps → AreGeometries ns qs → AreGeometries (n ∷ ns) (ps ++ qs)

-- ---- the topology

-- each member of `objects` is a geometry object under its name (TopoJSON 1.0, 2.1.5)
pub data AreLayers : List EntryNode → List LayerText → Type 0 where
  no_layer : AreLayers [] []
  layer : {m : EntryNode} {ms : List EntryNode} {ps : List Piece} {ls : List LayerText} →
      IsGeometry m.value ps → AreLayers ms ls →
      AreLayers (m ∷ ms) (record { name = m.name.bytes; pieces = ps } ∷ ls)

-- a topology object and its outline (TopoJSON 1.0, 2.1)
pub record IsOutline (root : Node) (o : OutlineText) : Type 0 where
  pub entries : List EntryNode
  pub objects : Node
  pub named : List EntryNode
  pub of_root : HasEntries root entries
  pub topology : HasType entries (codes "Topology")
  pub transform : IsTransform (value_at word.Transform entries) o.transform
  pub has_objects : value_at word.Objects entries ≡ Some objects
  pub of_objects : HasEntries objects named
  pub layers : AreLayers named o.layers
  pub has_arcs : value_at word.Arcs entries ≡ Some o.arcs
  pub are_arcs : IsList o.arcs
  pub members : o.members ≡ kept owner.Topology entries

-- if a value stands there, it is a topology with this outline
abbrev pub HasOutline : Node → OutlineText → Type 0
HasOutline root o = (levels : ℕ) → IsValue levels root.bytes → IsOutline root o

-- what stands there is no topology with at most 200,000 features
abbrev pub HasNoOutline : Node → Type 0
HasNoOutline root = (o : OutlineText) → IsOutline root o → few o.layers ≡ false

-- a value with at most k lists and objects one in another (RFC 8259, 9)
abbrev pub NestsAtMost : ℕ → Node → Type 0
NestsAtMost k n = IsValue k n.bytes

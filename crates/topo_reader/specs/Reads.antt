-- What a text means as a topology, by the grammar of JSON, with sums and joined lists, and with no
-- order of faults.
use Rattle.std.specs.Prelude.{◌≡◌, ◌≢◌, ℕ, ℤ, pos, negsuc, ◌+ℤ◌, ◌≤◌, List, [], ◌∷◌, ◌++◌, length, flat_map, reverse, slice_get, AllPairs, Bool, true, false, Some, is_some}
use Rattle.std.specs.List.{AllZip}
use Rattle.json_spans.specs.Common.{Json, Node, IsValue, Padded, IsListOf, IsListFor, IsWhole}
use Rattle.grid_geometry.specs.Common.{Position, position, InRange}
use Rattle.ring_machine.specs.Common.{canonical, Form, Polygon, MultiPolygon, Null, Document}
use Rattle.topo_outline.specs.Common.{OutlineText, leaves, IsOutline}
use Rattle.topo_reader.specs.declared.rings.Closed.{Closed}
use Rattle.topo_reader.specs.declared.rings.Closed.TheVariants.{Rings, Walks}
use Rattle.topo_reader.specs.Arcs.{Arc, origin}
use Rattle.topo_reader.specs.Sizes.{size}
use Rattle.topo_reader.specs.Document.{Polygons, document_of}

-- ---- arcs (TopoJSON 1.0, 2.1.1 to 2.1.3)

-- the node is a pair of whole numbers, and p the sum of the position before it and the pair
pub record IsSum (before : Position) (n : Node) (p : Position) : Type 0 where
  pub first : Node
  pub second : Node
  pub x : ℤ
  pub y : ℤ
  pub two : IsListOf n (first ∷ second ∷ [])
  pub x_is : IsWhole first.bytes x
  pub y_is : IsWhole second.bytes y
  pub sum : p ≡ position (before.x +ℤ x) (before.y +ℤ y)
  pub in_range : InRange p

-- each position is the sum of the pairs so far
pub data Sums : Position → List Node → List Position → Type 0 where
  no_pair : {before : Position} → Sums before [] []
  pair : {before p : Position} {n : Node} {ns : List Node} {ps : List Position} →
      IsSum before n p → Sums p ns ps → Sums before (n ∷ ns) (p ∷ ps)

-- with deltas the positions are the sums, and without each pair is a position
abbrev pub ArePositions : Bool → List Node → List Position → Type 0
ArePositions true ns ps = Sums origin ns ps
ArePositions false ns ps = AllZip (IsSum origin) ns ps

-- the node is a list of two positions or more
pub record IsArc (delta : Bool) (n : Node) (ps : List Position) : Type 0 where
  pub items : List Node
  pub list : IsListOf n items
  pub positions : ArePositions delta items ps
  pub long : 2 ≤ length ps

-- the node is a list of these arcs
abbrev pub AreArcs : Bool → Node → List Arc → Type 0
AreArcs delta n found = IsListFor (IsArc delta) n found

-- ---- arc indexes (TopoJSON 1.0, 2.1.4)

-- the node is a whole number: i names arc i, and -1 - i names arc i in reverse
pub data IsUse (arcs : List Arc) (n : Node) : Arc → Type 0 where
  forward : {i : ℕ} {a : Arc} →
      IsWhole n.bytes (pos i) → slice_get arcs i ≡ Some a → IsUse arcs n a
  backward : {i : ℕ} {a : Arc} →
      IsWhole n.bytes (negsuc i) → slice_get arcs i ≡ Some a → IsUse arcs n (reverse a)

-- a ring uses the arcs that its items name, and a polygon those of its rings
abbrev pub RingUses : List Arc → Node → List Arc → Type 0
RingUses arcs n uses = IsListFor (IsUse arcs) n uses

abbrev pub PolygonUses : List Arc → Node → List (List Arc) → Type 0
PolygonUses arcs n rings = IsListFor (RingUses arcs) n rings

-- the arcs that a geometry's `arcs` name: one polygon, several, or none, by its form
-- (TopoJSON 1.0, 2.2.5 and 2.2.6)
abbrev pub GeometryUses : List Arc → Form × Node → List (List (List Arc)) → Type 0
GeometryUses arcs (Null, n) polygons = polygons ≡ []
GeometryUses arcs (Polygon, n) polygons =
    (rings : List (List Arc)) × PolygonUses arcs n rings × (polygons ≡ rings ∷ [])
GeometryUses arcs (MultiPolygon, n) polygons = IsListFor (PolygonUses arcs) n polygons

-- ---- walks and rings (TopoJSON 1.0, 2.1.4; RFC 7946, 3.1.6)

-- the arc begins at p and ends at q
pub record Leads (p : Position) (a : Arc) (q : Position) : Type 0 where
  pub after : List Position
  pub until : List Position
  pub begins : a ≡ p ∷ after
  pub ends : a ≡ until ++ q ∷ []

-- from p to q over the arcs: each begins where the one before it ends
pub data Chain : Position → List Arc → Position → Type 0 where
  there : {p : Position} → Chain p [] p
  along : {p q r : Position} {a : Arc} {as' : List Arc} →
      Leads p a q → Chain q as' r → Chain p (a ∷ as') r

-- equal neighbours taken once
pub data Once : List Position → List Position → Type 0 where
  none : Once [] []
  last : {p : Position} → Once (p ∷ []) (p ∷ [])
  same : {p : Position} {ps qs : List Position} → Once (p ∷ ps) qs → Once (p ∷ p ∷ ps) qs
  next : {p q : Position} {ps qs : List Position} →
      p ≢ q → Once (q ∷ ps) qs → Once (p ∷ q ∷ ps) (p ∷ qs)

-- a walk: the arcs lead from a position back to it; the walk has their positions, equal neighbours
-- taken once and without the last, which is the first. No arcs make the walk of no positions
pub data IsWalk : List Arc → List Position → Type 0 where
  nowhere : IsWalk [] []
  around : {start : Position} {uses : List Arc} {walk : List Position} → Chain start uses start
      → Once (flat_map (λ a. a) uses) (walk ++ start ∷ []) → IsWalk uses walk

-- a ring: a walk with at least three corners, all different; in the document it begins at its least
-- one
pub record IsRing (uses : List Arc) (ring : List Position) : Type 0 where
  pub start : Position
  pub corners : List Position
  pub closed : Chain start uses start
  pub once : Once (flat_map (λ a. a) uses) (corners ++ start ∷ [])
  pub long : 3 ≤ length corners
  pub different : AllPairs (λ p q. p ≢ q) corners
  pub turned : ring ≡ canonical corners

-- what the arcs of a ring are read as
abbrev pub IsClosed : Closed → List Arc → List Position → Type 0
IsClosed Rings = IsRing
IsClosed Walks = IsWalk

-- by polygon and ring
abbrev pub AreClosed :
    (List Arc → List Position → Type 0) → List (List (List Arc)) → Polygons → Type 0
AreClosed IsOne uses polygons = AllZip (AllZip IsOne) uses polygons

abbrev pub AreRings : List (List (List Arc)) → Polygons → Type 0
AreRings uses polygons = AreClosed IsRing uses polygons

-- ---- the topology (TopoJSON 1.0, 2.1)

-- the bytes are a value with space round it (RFC 8259, 2), and the value means the document, where
-- the list of arcs means what AreThese says, told whether there is a transform, and the arcs of each
-- ring what IsOne says
pub record ReadsWith (AreThese : Bool → Node → List Arc → Type 0)
    (IsOne : List Arc → List Position → Type 0) (bytes : List ℕ) (d : Document) : Type 0 where
  pub levels : ℕ
  pub root : Node
  pub json : Padded (IsValue levels) 0 bytes root
  pub shape : OutlineText
  pub arcs : List Arc
  pub uses : List (List (List (List Arc)))
  pub polygons : List Polygons
  pub topology : IsOutline root shape
  pub arcs_are : AreThese (is_some shape.transform) shape.arcs arcs
  pub uses_are : AllZip (GeometryUses arcs) (leaves shape.layers) uses
  pub rings_are : AllZip (AreClosed IsOne) uses polygons
  pub document : d ≡ document_of (record {
    transform = shape.transform;
    layers = shape.layers;
    members = shape.members;
    polygons = polygons;
  })

-- where the arcs have whole numbers
abbrev pub ReadsBy : (List Arc → List Position → Type 0) → List ℕ → Document → Type 0
ReadsBy IsOne bytes d = ReadsWith AreArcs IsOne bytes d

-- with rings, and with walks in their place
abbrev pub Reads : List ℕ → Document → Type 0
Reads bytes d = ReadsBy IsRing bytes d

abbrev pub ReadsWalks : List ℕ → Document → Type 0
ReadsWalks bytes d = ReadsBy IsWalk bytes d

-- what is read is within the limits: bytes, lists and objects one in another, features, and
-- the positions of the arcs, counted for each use
pub record Fits {AreThese : Bool → Node → List Arc → Type 0}
    {IsOne : List Arc → List Position → Type 0} {bytes : List ℕ} {d : Document}
    (reading : ReadsWith AreThese IsOne bytes d) : Type 0 where
  pub short : length bytes ≤ 67108864
  pub flat : Json 100 bytes
  pub few : length (leaves reading.shape.layers) ≤ 200000
  pub small : size reading.uses ≤ 4000000

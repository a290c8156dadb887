-- Opening: the first fault of the first phase that has one, or what was read.
-- The phases follow each other as the lines do. Rings are wanted, or walks.
use Rattle.std.specs.Prelude.{◌≡◌, ℕ, ◌<◌, ◌≤◌, ◌⊎◌, List, length, nat_le, Some, is_some, Result, Ok, Err}
use Rattle.ring_machine.specs.Common.{first_pair}
use Rattle.json_spans.specs.Common.{Json, Node, verdict, trimmed}
use Rattle.json_spans.specs.Machine as verdicts
use Rattle.topo_outline.specs.declared.fault.Limit.TheVariants as limit
use Rattle.topo_outline.specs.declared.fault.OpenFault.{OpenFault}
use Rattle.topo_outline.specs.declared.fault.OpenFault.TheVariants as fault
use Rattle.topo_outline.specs.Common.{Fault, too_deep, not_topology, bad_member, duplicate, unsupported, not_whole}
use Rattle.topo_outline.specs.Common.{out_of_range, bad_position, bad_arc_index, arcs_do_not_meet, ring_short}
use Rattle.topo_outline.specs.Common.{ring_repeats, too_large, ◌>>=◌, each, demand, LayerText, OutlineText, leaves}
use Rattle.topo_outline.specs.Common.{outline}
use Rattle.topo_reader.specs.Positions.{arcs}
use Rattle.topo_reader.specs.Arcs.{Arc}
use Rattle.topo_reader.specs.Indexes.{uses_of}
use Rattle.topo_reader.specs.Sizes.{size}
use Rattle.topo_reader.specs.declared.rings.Closed.{Closed}
use Rattle.topo_reader.specs.declared.rings.Closed.TheVariants.{Rings, Walks}
use Rattle.topo_reader.specs.Rings.{all_rings}
use Rattle.topo_reader.specs.Document.{Polygons, Opened, document_of}

-- the polygons of all features along these arcs: the arcs' indexes, the limit, the rings
abbrev pub polygons_along : Closed → List Arc → List LayerText → Result (List Polygons) Fault
polygons_along closed found layers = do
  uses ← each (uses_of found) (leaves layers)
  demand (nat_le (size uses) 4000000) (too_large limit.Positions) (all_rings closed uses)

-- with walks in the place of rings
abbrev pub walks_read : List Arc → List LayerText → Result (List Polygons) Fault
walks_read found layers = polygons_along Walks found layers

-- the polygons of all features: the positions of the arcs first
abbrev pub polygons_read : Closed → OutlineText → Result (List Polygons) Fault
polygons_read closed shape = do
  found ← arcs (is_some shape.transform) shape.arcs
  polygons_along closed found shape.layers

-- the topology whose root this is (TopoJSON 1.0, 2.1)
abbrev pub opening : Closed → Node → Result Opened Fault
opening closed root = do
  shape ← outline root
  polygons' ← polygons_read closed shape
  Ok (record {
    transform = shape.transform;
    layers = shape.layers;
    members = shape.members;
    polygons = polygons';
  })

-- the whole text as a value, without the spaces round it (RFC 8259, 2)
abbrev pub root_of : List ℕ → Node
root_of bytes = trimmed (record { at_byte = 0; bytes = bytes })

-- the bytes are JSON, and what reading their value gives is o
pub record OpensIn (read : Node → Result Opened Fault) (bytes : List ℕ) (o : Opened)
    : Type 0 where
  pub short : length bytes ≤ 67108864
  pub json : Json 100 bytes
  pub opens : read (root_of bytes) ≡ Ok o

-- the bytes are a topology of the profile, opened as o
abbrev pub OpensBy : Closed → List ℕ → Opened → Type 0
OpensBy closed bytes o = OpensIn (opening closed) bytes o

-- with rings, and with walks
abbrev pub Opens : List ℕ → Opened → Type 0
Opens bytes o = OpensBy Rings bytes o

abbrev pub OpensWalks : List ℕ → Opened → Type 0
OpensWalks bytes o = OpensBy Walks bytes o

-- the bytes are JSON, and reading them comes to a fault
pub record StopsIn (read : Node → Result Opened Fault) (bytes : List ℕ) (f : Fault)
    : Type 0 where
  pub short : length bytes ≤ 67108864
  pub json : Json 100 bytes
  pub stops : read (root_of bytes) ≡ Err f

abbrev pub StopsBy : Closed → List ℕ → Fault → Type 0
StopsBy closed bytes f = StopsIn (opening closed) bytes f

abbrev pub Stops : List ℕ → Fault → Type 0
Stops bytes f = StopsBy Rings bytes f

abbrev pub StopsWalks : List ℕ → Fault → Type 0
StopsWalks bytes f = StopsBy Walks bytes f

-- the bytes are not JSON with at most 100 lists and objects one in another
pub record IsNotJson (bytes : List ℕ) : Type 0 where
  pub short : length bytes ≤ 67108864
  pub not_json : ¬ Json 100 bytes

-- the fault is the first of the bytes; allocation failure may come at any time
abbrev pub IsFaultIn : (Node → Result Opened Fault) → List ℕ → OpenFault → Type 0
IsFaultIn read bytes (fault.NotJson place) = IsNotJson bytes
IsFaultIn read bytes (fault.TooDeep place) =
    IsNotJson bytes ⊎ StopsIn read bytes (too_deep place)
IsFaultIn read bytes fault.NotTopology = StopsIn read bytes not_topology
IsFaultIn read bytes (fault.BadMember name) = StopsIn read bytes (bad_member name.text.now)
IsFaultIn read bytes (fault.Duplicate name) = StopsIn read bytes (duplicate name.text.now)
IsFaultIn read bytes (fault.Unsupported name) = StopsIn read bytes (unsupported name.text.now)
IsFaultIn read bytes (fault.NotWhole place) = StopsIn read bytes (not_whole place)
IsFaultIn read bytes (fault.OutOfRange place) = StopsIn read bytes (out_of_range place)
IsFaultIn read bytes (fault.BadPosition place) = StopsIn read bytes (bad_position place)
IsFaultIn read bytes (fault.BadArcIndex place) = StopsIn read bytes (bad_arc_index place)
IsFaultIn read bytes (fault.ArcsDoNotMeet ring) = StopsIn read bytes (arcs_do_not_meet ring)
IsFaultIn read bytes (fault.RingShort ring) = StopsIn read bytes (ring_short ring)
IsFaultIn read bytes (fault.RingRepeats ring p) = StopsIn read bytes (ring_repeats ring p)
IsFaultIn read bytes (fault.Conflict s t) =
    (o : Opened) × OpensIn read bytes o × (first_pair (document_of o) ≡ Some (s, t))
IsFaultIn read bytes (fault.TooLarge limit.Bytes) = 67108864 < length bytes
IsFaultIn read bytes (fault.TooLarge limit.Features) =
    StopsIn read bytes (too_large limit.Features)
IsFaultIn read bytes (fault.TooLarge limit.Positions) =
    StopsIn read bytes (too_large limit.Positions)
IsFaultIn read bytes fault.OutOfMemory = Unit {0}

abbrev pub IsFaultBy : Closed → List ℕ → OpenFault → Type 0
IsFaultBy closed bytes f = IsFaultIn (opening closed) bytes f

abbrev pub IsFault : List ℕ → OpenFault → Type 0
IsFault bytes f = IsFaultBy Rings bytes f

abbrev pub IsWalkFault : List ℕ → OpenFault → Type 0
IsWalkFault bytes f = IsFaultBy Walks bytes f

-- where a text stops to be the prefix of a JSON text, or where a bracket opens level 101
abbrev pub IsPlaceBy : Closed → List ℕ → OpenFault → Type 0
IsPlaceBy closed bytes (fault.NotJson place) = verdict bytes ≡ verdicts.not_json place
IsPlaceBy closed bytes (fault.TooDeep place) =
    (verdict bytes ≡ verdicts.too_deep place) ⊎ StopsBy closed bytes (too_deep place)
IsPlaceBy closed bytes _ = Unit {0}

abbrev pub IsPlace : List ℕ → OpenFault → Type 0
IsPlace bytes f = IsPlaceBy Rings bytes f

abbrev pub IsWalkPlace : List ℕ → OpenFault → Type 0
IsWalkPlace bytes f = IsPlaceBy Walks bytes f

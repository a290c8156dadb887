-- The text of the places of findings: a topology of points and lines, without white space.
use Rattle.std.specs.Prelude.{◌≡◌, ℕ, ◌+◌, Bool, if◌then◌else◌, List, [], ◌∷◌, ◌++◌, map, length, Option, Some, None, is_some, codes, decimal}
use Rattle.grid_geometry.specs.Common.{Position}
use Rattle.ring_machine.specs.Common.{Text}
use Rattle.topo_outline.specs.declared.fault.RingAt.{RingAt}
use Rattle.map_text.specs.Common.{list_text, pair_text, arcs_text, commas, further}
use Rattle.walk_faults.specs.declared.findings.Findings.{Findings}
use Rattle.walk_faults.specs.Common.{flat_map_at}
use Rattle.place_text.specs.declared.places.Kind.{Kind}
use Rattle.place_text.specs.declared.places.Kind.TheVariants.{Short, Repeats, On, Cross}
use Rattle.place_text.specs.declared.places.Place.{Place}
use Rattle.place_text.specs.declared.sides.Side.{Side}
use Rattle.place_text.specs.Owners.{Telling, telling}
use Rattle.place_text.specs.Places.{ArePlaces}
use Rattle.segment_paths.specs.Common.{PathOfSegment}
use Rattle.place_text.specs.Sides.{sides_of, side_ends, path_positions}

-- ---- properties

-- the name of a kind, as the report has it
abbrev pub kind_text : Kind → Text
kind_text Short = codes "\"short\""
kind_text Repeats = codes "\"repeats\""
kind_text On = codes "\"on\""
kind_text Cross = codes "\"cross\""

-- where the walk stands of which something is found, as further members
abbrev pub ring_members : Option RingAt → Text
ring_members None = []
ring_members (Some r) =
    codes ",\"feature\":" ++ (decimal r.feature ++ (codes ",\"polygon\":" ++ (decimal r.polygon
    ++ (codes ",\"ring\":" ++ decimal r.ring))))

-- the features with these numbers, as a further member
abbrev pub features_text : List ℕ → Text
features_text numbers = codes ",\"features\":" ++ list_text (map decimal numbers)

-- whose a place is: that of a walk, of the features that have a vertex, or of those that have a
-- segment of a pair
abbrev pub whose_text : Telling → Kind → Place → Text
whose_text told Short p = ring_members p.ring
whose_text told Repeats p = ring_members p.ring
whose_text told On p = features_text (told.vertex p.pos)
whose_text told Cross p = features_text (told.pair p.number)

-- the first properties: the kind of a finding, and its number among those of its kind
abbrev pub finding_text : Kind → ℕ → Text
finding_text kind n =
    codes "{\"kind\":" ++ (kind_text kind ++ (codes ",\"number\":" ++ decimal n))

-- ---- geometries

-- a place: a point (TopoJSON 1.0, 2.2.1)
abbrev pub point_of_place : Telling → Place → Text
point_of_place told p =
    codes "{\"type\":\"Point\",\"properties\":" ++ (finding_text p.kind p.number
    ++ (whose_text told p.kind p
    ++ (codes "},\"coordinates\":" ++ (pair_text p.pos ++ codes "}"))))

-- a segment: a line of the arc with this index (TopoJSON 1.0, 2.2.3)
abbrev pub side_text : Telling → ℕ → Side → Text
side_text told n s =
    codes "{\"type\":\"LineString\",\"properties\":" ++ (finding_text s.kind s.number
    ++ (features_text (told.segment s.segment)
    ++ (codes "},\"arcs\":[" ++ (decimal n ++ codes "]}"))))

-- the segments, each with an arc of its own, which have the same order
abbrev pub sides_text : Telling → List Side → List Text
sides_text told sides = flat_map_at (λ n s. side_text told n s ∷ []) 0 sides

-- the path with this number: a line of the arc with this index
abbrev pub path_text : Telling → ℕ → ℕ → PathOfSegment → Text
path_text told n index path =
    codes "{\"type\":\"LineString\",\"properties\":{\"number\":" ++ (decimal n
    ++ (features_text (told.segment path.0)
    ++ (codes "},\"arcs\":[" ++ (decimal index ++ codes "]}"))))

-- the paths, each with an arc of its own, which have the same order and come after so many others
abbrev pub paths_text : Telling → ℕ → List PathOfSegment → List Text
paths_text told others paths = flat_map_at (λ n p. path_text told n (others + n) p ∷ []) 0 paths

-- ---- the topology (TopoJSON 1.0, 2.1)

-- the transform, if there is one, as a further member: the text that was kept
abbrev pub transform_member : Option Text → Text
transform_member None = []
transform_member (Some t) = codes ",\"transform\":" ++ t

-- a collection of these geometries (TopoJSON 1.0, 2.2.7)
abbrev pub collection_text : List Text → Text
collection_text geometries =
    codes "{\"type\":\"GeometryCollection\",\"geometries\":" ++ (list_text geometries ++ codes "}")

-- the layer of the paths, if they are reported, as a further member; so many arcs come before theirs
abbrev pub path_layer : Telling → ℕ → Option (List PathOfSegment) → Text
path_layer told others None = []
path_layer told others (Some paths) =
    codes ",\"paths\":" ++ collection_text (paths_text told others paths)

-- the positions of the paths, if they are reported
abbrev pub ways : Option (List PathOfSegment) → List (List Position)
ways None = []
ways (Some paths) = map path_positions paths

-- further values of a list, in which something stands before or nothing does
abbrev pub behind_if : Bool → List Text → Text
behind_if more values = if more then further values else commas values

-- the layers of the places, of the segments, and of the paths if they are reported, and the arcs
abbrev pub topology_text : Telling → Option Text → List Place → List Side → Option (List PathOfSegment)
    → Text
topology_text told transform places sides paths =
    codes "{\"type\":\"Topology\"" ++ (transform_member transform
    ++ (codes ",\"objects\":{\"places\":" ++ (collection_text (map (point_of_place told) places)
    ++ (codes ",\"segments\":" ++ (collection_text (sides_text told sides)
    ++ (path_layer told (length sides) paths
    ++ (codes "},\"arcs\":" ++ (arcs_text (is_some transform) (map side_ends sides ++ ways paths)
    ++ codes "}"))))))))

-- the text has the places and the segments of these findings in a map with this transform, and these
-- paths, if they are reported, each with the features that have it
pub record IsPlaceText {A : Type 0} (transform : Option Text)
    (features : List (List (List (List Position)))) (found : Findings A)
    (paths : Option (List PathOfSegment)) (text : List ℕ) : Type 0 where
  pub places : List Place
  pub are_places : ArePlaces features found places
  pub same : text ≡ topology_text (telling features found) transform places (sides_of found) paths

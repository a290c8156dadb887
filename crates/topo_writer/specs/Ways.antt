-- A way that is cut while one goes along it, and its pieces found one after another.
use Rattle.std.specs.Prelude.{ℤ, pos, Bool, true, false, ◌||◌, if◌then◌else◌, List, [], ◌∷◌, ◌++◌}
use Rattle.std.specs.Prelude.{ℕ, ◌+◌, ◌-◌, ◌<◌, ◌≤◌, take, drop, map, unwrap_or, Contains, codes}
use Rattle.std.specs.List.{flat_map, AllByRecursion}
use Rattle.grid_geometry.specs.Common.{Position}
use Rattle.ring_machine.specs.Common.{Document, Feature, Form, Text, rings, in_feature, is_junction}
use Rattle.map_text.specs.Common.{pieces, indexes, with_pieces, commas, further, member_if, member_text, feature_text}
use Rattle.map_text.specs.Common.{ring_text, polygon_text, shape_text}
use Rattle.topo_writer.specs.Found.{arc_found, first_edge, with_found, Fits}

-- nothing is left
abbrev pub is_done : List Position → Bool
is_done [] = true
is_done (p ∷ ps) = false

-- the pieces of the way, of which the first goes on from what stands; one ends at each junction
-- and at the end of the way
abbrev pub cut_after : (Position → Bool) → List Position → List Position → List (List Position)
cut_after junction piece [] = []
cut_after junction piece (p ∷ ps) =
    if is_done ps || junction p
    then ((piece ++ p ∷ []) ∷ cut_after junction (p ∷ []) ps)
    else cut_after junction (piece ++ p ∷ []) ps

-- the parts of the way between these places, each with both its ends
abbrev pub cut_between : List Position → List ℕ → List (List Position)
cut_between way [] = []
cut_between way (from ∷ []) = []
cut_between way (from ∷ to ∷ cuts) = take (to + 1 - from) (drop from way) ∷ cut_between way (to ∷ cuts)

-- the places rise, and are among the first so many
abbrev pub Rising : ℕ → List ℕ → Type 0
Rising count [] = Unit {0}
Rising count (from ∷ []) = from < count
Rising count (from ∷ to ∷ cuts) = (from ≤ to) × ((to < count) × Rising count (to ∷ cuts))

-- the arcs after these pieces
abbrev pub all_found : List (List Position) → List (List Position) → List (List Position)
all_found arcs [] = arcs
all_found arcs (piece ∷ pieces) = all_found (with_found arcs piece) pieces

-- the index of a piece when it has been found or has become an arc
abbrev pub index_found : List (List Position) → List Position → ℤ
index_found arcs piece = unwrap_or (arc_found (with_found arcs piece) (first_edge piece)) (pos 0)

-- the indexes of these pieces, each as it was found
abbrev pub indexes_found : List (List Position) → List (List Position) → List ℤ
indexes_found arcs [] = []
indexes_found arcs (piece ∷ pieces) =
    index_found arcs piece ∷ indexes_found (with_found arcs piece) pieces

-- each piece fits beside the arcs before it
abbrev pub FitAll : List (List Position) → List (List Position) → Type 0
FitAll arcs [] = Unit {0}
FitAll arcs (piece ∷ pieces) = Fits arcs piece × FitAll (with_found arcs piece) pieces

-- ---- pieces of a document

-- the pieces of all rings of the document
abbrev pub all_pieces : Document → List (List Position)
all_pieces d = flat_map (pieces (is_junction d)) (rings d)

-- the arcs after these rings of the document were cut too
abbrev pub arcs_with : Document → List (List Position) → List (List Position) → List (List Position)
arcs_with d arcs some = with_pieces arcs (flat_map (pieces (is_junction d)) some)

-- each of these is a piece of the document
abbrev pub ArePieces : Document → List (List Position) → Type 0
ArePieces d arcs = AllByRecursion (Contains (all_pieces d)) arcs

-- a ring by the indexes of its arcs
abbrev pub written_ring : (Position → Bool) → List (List Position) → List Position → Text
written_ring junction arcs ring = ring_text (indexes junction arcs ring)

-- these rings with commas between them
abbrev pub written_rings :
    (Position → Bool) → List (List Position) → List (List Position) → Text
written_rings junction arcs some = commas (map (written_ring junction arcs) some)

-- a polygon by the indexes of its rings' arcs
abbrev pub written_polygon :
    (Position → Bool) → List (List Position) → List (List Position) → Text
written_polygon junction arcs polygon = polygon_text (map (indexes junction arcs) polygon)

-- these polygons with commas between them
abbrev pub written_polygons :
    (Position → Bool) → List (List Position) → List (List (List Position)) → Text
written_polygons junction arcs some = commas (map (written_polygon junction arcs) some)

-- the polygons of a feature as its member, after a comma; nothing where there is no such member
abbrev pub written_shape :
    (Position → Bool) → List (List Position) → Form → List (List (List Position)) → Text
written_shape junction arcs form polygons = further (map member_text
    (member_if (codes "\"arcs\"") (shape_text form (map (map (indexes junction arcs)) polygons))))

-- a feature by the indexes of its rings' arcs
abbrev pub written_feature : (Position → Bool) → List (List Position) → Feature → Text
written_feature junction arcs f = feature_text (in_feature (indexes junction arcs) f)

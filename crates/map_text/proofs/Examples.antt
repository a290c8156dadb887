-- The texts of documents, worked out.
use Rattle.kit_words.proofs.Common.{refl, ◌≡◌, ℕ, List, pos, negsuc, true, false, [], ◌∷◌, None, Some, codes, map}
use Rattle.kit_words.proofs.Common.{digits}
use Rattle.ring_machine.specs.Common.{Document, Layer, Open, Close, Leaf, Kept, MultiPolygon, ins, is_junction}
use Rattle.ring_machine.specs.Common.{take_out}
use Rattle.ring_machine.proofs.Common.{at, under, polygon, null, bare, collection, single, document, square_a, square_b}
use Rattle.ring_machine.proofs.Common.{both_squares, triangle, E}
use Rattle.map_text.specs.Common.{pieces, arcs_of, indexes, arc_text, text_of}

-- ---- the maps, with the names of their files

abbrev land : Layer
land = collection (codes "\"land\"")
    (Leaf (polygon 0 (Some (codes "\"A\"")) (square_a ∷ []))
    ∷ Leaf (polygon 1 (Some (codes "\"B\"")) (square_b ∷ []))
    ∷ [])

-- two squares with a common side
abbrev pub M : Document
M = document (land ∷ [])

-- M, and above it a layer that is the union of the squares
abbrev S : Document
S = document (land ∷ single (codes "\"state\"") (polygon 2 None (both_squares ∷ [])) ∷ [])

-- with a transform, collections one in another, a kept point, an object whose type is null, and a
-- member that is kept
abbrev Q : Document
Q = record {
  transform = Some (codes "{\"scale\":[0.50,1e-3],\"translate\":[-1.25,50.0]}");
  layers = record {
    name = codes "\"z\"";
    items =
        Open bare ∷ Open bare
        ∷ Leaf (record (polygon 0 None (triangle ∷ [])) {
          properties = Some (codes "{\"n\": 1.50,\"s\":\"\\u00e9\"}");
        })
        ∷ Close ∷ Kept (codes "{\"type\":\"Point\",\"coordinates\":[3,4]}")
        ∷ null 1 (codes "7") ∷ Close ∷ [];
  } ∷ [];
  members = record { name = codes "\"note\""; value = codes "\"kept  1.0\"" } ∷ [];
}

-- ---- pieces and arcs

-- the square is cut at both ends of the common side, beginning at the first
cut_square : pieces (is_junction M) square_a
    ≡ ((at 10 0 ∷ at 10 10 ∷ []) ∷ (at 10 10 ∷ at 0 10 ∷ at 0 0 ∷ at 10 0 ∷ []) ∷ [])
cut_square = refl

-- a ring without junctions is one closed piece from its least position back to it
closed_piece : pieces (is_junction Q) triangle ≡ ((at 0 0 ∷ at 5 0 ∷ at 5 5 ∷ at 0 0 ∷ []) ∷ [])
closed_piece = refl

-- the common side is one arc, which the second square goes through in reverse
common_side : map (indexes (is_junction M) (arcs_of M)) (square_a ∷ square_b ∷ [])
    ≡ ((pos 0 ∷ pos 1 ∷ []) ∷ (pos 2 ∷ negsuc 0 ∷ []) ∷ [])
common_side = refl

-- differences with a transform, positions without
both_kinds : map (λ delta. arc_text delta (at 7 1 ∷ under 7 1 ∷ [])) (true ∷ false ∷ [])
    ≡ (codes "[[7,1],[0,-2]]" ∷ codes "[[7,1],[7,-1]]" ∷ [])
unfolding digits
both_kinds = refl

-- ---- whole texts

abbrev pub squares_text : List ℕ
squares_text = codes "{\"type\":\"Topology\",\"objects\":{\"land\":{\"type\":\"GeometryCollection\",\"geometries\":[{\"type\":\"Polygon\",\"id\":\"A\",\"arcs\":[[0,1]]},{\"type\":\"Polygon\",\"id\":\"B\",\"arcs\":[[2,-1]]}]}},\"arcs\":[[[10,0],[10,10]],[[10,10],[0,10],[0,0],[10,0]],[[10,0],[20,0],[20,10],[10,10]]]}"

-- the arcs are numbered anew, members stand in their order, and a `bbox` is left out
pub two_squares : text_of M ≡ squares_text
unfolding digits
two_squares = refl

-- a vertex in the common side is a position of its arc
with_a_vertex : text_of (ins M (at 10 0) (at 10 10) (at 8 5))
    ≡ codes "{\"type\":\"Topology\",\"objects\":{\"land\":{\"type\":\"GeometryCollection\",\"geometries\":[{\"type\":\"Polygon\",\"id\":\"A\",\"arcs\":[[0,1]]},{\"type\":\"Polygon\",\"id\":\"B\",\"arcs\":[[2,-1]]}]}},\"arcs\":[[[10,0],[8,5],[10,10]],[[10,10],[0,10],[0,0],[10,0]],[[10,0],[20,0],[20,10],[10,10]]]}"
unfolding digits
with_a_vertex = refl

-- a second layer over the same borders uses their arcs
two_layers : text_of S
    ≡ codes "{\"type\":\"Topology\",\"objects\":{\"land\":{\"type\":\"GeometryCollection\",\"geometries\":[{\"type\":\"Polygon\",\"id\":\"A\",\"arcs\":[[0,1]]},{\"type\":\"Polygon\",\"id\":\"B\",\"arcs\":[[2,-1]]}]},\"state\":{\"type\":\"Polygon\",\"arcs\":[[2,1]]}},\"arcs\":[[[10,0],[10,10]],[[10,10],[0,10],[0,0],[10,0]],[[10,0],[20,0],[20,10],[10,10]]]}"
unfolding digits
two_layers = refl

-- without the neighbour the former junctions are no cuts any more
one_square : text_of (take_out M 1)
    ≡ codes "{\"type\":\"Topology\",\"objects\":{\"land\":{\"type\":\"GeometryCollection\",\"geometries\":[{\"type\":\"Polygon\",\"id\":\"A\",\"arcs\":[[0]]}]}},\"arcs\":[[[0,0],[10,0],[10,10],[0,10],[0,0]]]}"
unfolding digits take_out
one_square = refl

-- a feature that was the geometry of its layer left an empty collection
empty_layer : text_of (take_out E 1)
    ≡ codes "{\"type\":\"Topology\",\"objects\":{\"a\":{\"type\":\"Polygon\",\"arcs\":[[0]]},\"b\":{\"type\":\"GeometryCollection\",\"geometries\":[]}},\"arcs\":[[[0,0],[10,0],[10,10],[0,10],[0,0]]]}"
unfolding digits take_out
empty_layer = refl

-- kept texts stand as they are
kept_texts : text_of Q
    ≡ codes "{\"type\":\"Topology\",\"transform\":{\"scale\":[0.50,1e-3],\"translate\":[-1.25,50.0]},\"objects\":{\"z\":{\"type\":\"GeometryCollection\",\"geometries\":[{\"type\":\"GeometryCollection\",\"geometries\":[{\"type\":\"Polygon\",\"properties\":{\"n\": 1.50,\"s\":\"\\u00e9\"},\"arcs\":[[0]]}]},{\"type\":\"Point\",\"coordinates\":[3,4]},{\"type\":null,\"id\":7}]}},\"arcs\":[[[0,0],[5,0],[0,5],[-5,-5]]],\"note\":\"kept  1.0\"}"
unfolding digits
kept_texts = refl

-- the members of a collection: its type, its id, its properties, its geometries, and those that are
-- kept
abbrev described : Document
described = document (record {
  name = codes "\"c\"";
  items = Open (record {
    id = Some (codes "\"C\"");
    properties = Some (codes "{\"n\":1}");
    members = record { name = codes "\"k\""; value = codes "2" } ∷ [];
  }) ∷ null 0 (codes "7") ∷ Close ∷ [];
} ∷ [])

texts_of_a_collection : text_of described
    ≡ codes "{\"type\":\"Topology\",\"objects\":{\"c\":{\"type\":\"GeometryCollection\",\"id\":\"C\",\"properties\":{\"n\":1},\"geometries\":[{\"type\":null,\"id\":7}],\"k\":2}},\"arcs\":[]}"
texts_of_a_collection = refl

-- a topology without layers
nothing : text_of (document []) ≡ codes "{\"type\":\"Topology\",\"objects\":{},\"arcs\":[]}"
nothing = refl

-- an island fills a hole, and goes round it the other way: a MultiPolygon of two polygons
abbrev island : Document
island = document (single (codes "\"i\"") (record (polygon 0 None []) {
  form = MultiPolygon;
  members = record { name = codes "\"k\""; value = codes "[ 1 ]" } ∷ [];
  polygons =
      ((at 0 0 ∷ at 9 0 ∷ at 9 9 ∷ []) ∷ (at 2 1 ∷ at 4 1 ∷ at 4 2 ∷ []) ∷ [])
      ∷ ((at 2 1 ∷ at 4 2 ∷ at 4 1 ∷ []) ∷ []) ∷ [];
}) ∷ [])

island_in_a_hole : text_of island
    ≡ codes "{\"type\":\"Topology\",\"objects\":{\"i\":{\"type\":\"MultiPolygon\",\"arcs\":[[[0],[1]],[[-2]]],\"k\":[ 1 ]}},\"arcs\":[[[0,0],[9,0],[9,9],[0,0]],[[2,1],[4,1],[4,2],[2,1]]]}"
unfolding digits
island_in_a_hole = refl

-- an object whose type is null has no arcs, and a MultiPolygon may have no polygon
no_polygons : text_of (document (single (codes "\"m\"") (record (polygon 0 None []) { form = MultiPolygon; polygons = [] })
    ∷ record { name = codes "\"n\""; items = null 1 (codes "1") ∷ [] } ∷ []))
    ≡ codes "{\"type\":\"Topology\",\"objects\":{\"m\":{\"type\":\"MultiPolygon\",\"arcs\":[]},\"n\":{\"type\":null,\"id\":1}},\"arcs\":[]}"
unfolding digits
no_polygons = refl

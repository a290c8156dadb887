-- Layers as GeoJSON, worked out.
use Rattle.kit_words.proofs.Common.{refl, ◌≡◌, List, [], ◌∷◌, None, Some, codes, true, false, Ok, Err, digits}
use Rattle.grid_geometry.specs.Common.{Position}
use Rattle.ring_machine.specs.Common.{Document, Open, Close, Leaf}
use Rattle.ring_machine.proofs.Common.{at, polygon, null, bare, collection, single, document}
use Rattle.grid_decimals.specs.Common.{fewest, shortest}
use Rattle.geo_text.specs.Wants.{Wants}
use Rattle.geo_features.specs.Faults.{several_layers, no_layer, nested}
use Rattle.geo_features.specs.Features.{leaf_geometry}
use Rattle.geo_text.specs.Items.{after_items, items_texts}
use Rattle.geo_text.specs.Layer.{asked_from}
use Rattle.geo_text.specs.Text.{geo_text}

-- nothing is asked for
abbrev usual : Wants
usual = record { layer = None; decimals = None; keeps_winding = false; flattens = false }

abbrev kept : Wants
kept = record usual { keeps_winding = true }

abbrev flat : Wants
flat = record usual { flattens = true }

-- ---- rings

-- a triangle that turns to the right
abbrev to_the_right : List Position
to_the_right = at 0 0 ∷ at 5 20 ∷ at 5 0 ∷ []

abbrev T : Document
T = document (single (codes "\"a\"") (polygon 0 (Some (codes "1")) (to_the_right ∷ [])) ∷ [])

-- it is written the other way round, from the same position
turned_round : geo_text usual T ≡ Ok (codes "{\"type\":\"FeatureCollection\",\"name\":\"a\",\"features\":[\n{\"type\":\"Feature\",\"id\":1,\"properties\":null,\"geometry\":{\"type\":\"Polygon\",\"coordinates\":[[[0,0],[5,0],[5,20],[0,0]]]}}\n]}\n")
unfolding digits shortest fewest items_texts after_items asked_from leaf_geometry
turned_round = refl

-- or as it is
kept_direction : geo_text kept T ≡ Ok (codes "{\"type\":\"FeatureCollection\",\"name\":\"a\",\"features\":[\n{\"type\":\"Feature\",\"id\":1,\"properties\":null,\"geometry\":{\"type\":\"Polygon\",\"coordinates\":[[[0,0],[5,20],[5,0],[0,0]]]}}\n]}\n")
unfolding digits shortest fewest items_texts after_items asked_from leaf_geometry
kept_direction = refl

-- a hole that turns as its outer ring does is turned round
abbrev hole : List Position
hole = at 4 1 ∷ at 8 1 ∷ at 8 5 ∷ []

with_a_hole : geo_text usual (document (single (codes "\"a\"") (polygon 0 None ((at 0 0 ∷ at 9 0 ∷ at 9 9 ∷ []) ∷ hole ∷ [])) ∷ []))
    ≡ Ok (codes "{\"type\":\"FeatureCollection\",\"name\":\"a\",\"features\":[\n{\"type\":\"Feature\",\"properties\":null,\"geometry\":{\"type\":\"Polygon\",\"coordinates\":[[[0,0],[9,0],[9,9],[0,0]],[[4,1],[8,5],[8,1],[4,1]]]}}\n]}\n")
unfolding digits shortest fewest items_texts after_items asked_from leaf_geometry
with_a_hole = refl

-- ---- collections

-- a feature without a geometry, and a collection with a triangle
abbrev C : Document
C = document (record {
  name = codes "\"a\"";
  items =
      Open bare ∷ null 0 (codes "7")
      ∷ Open (record bare { id = Some (codes "9") }) ∷ Leaf (polygon 1 None (to_the_right ∷ [])) ∷ Close ∷ Close ∷ [];
} ∷ [])

one_feature : geo_text kept C ≡ Ok (codes "{\"type\":\"FeatureCollection\",\"name\":\"a\",\"features\":[\n{\"type\":\"Feature\",\"id\":7,\"properties\":null,\"geometry\":null},\n{\"type\":\"Feature\",\"id\":9,\"properties\":null,\"geometry\":{\"type\":\"GeometryCollection\",\"geometries\":[{\"type\":\"Polygon\",\"coordinates\":[[[0,0],[5,20],[5,0],[0,0]]]}]}}\n]}\n")
unfolding digits shortest fewest items_texts after_items asked_from leaf_geometry
one_feature = refl

taken_apart : geo_text flat C ≡ Ok (codes "{\"type\":\"FeatureCollection\",\"name\":\"a\",\"features\":[\n{\"type\":\"Feature\",\"id\":7,\"properties\":null,\"geometry\":null},\n{\"type\":\"Feature\",\"properties\":null,\"geometry\":{\"type\":\"Polygon\",\"coordinates\":[[[0,0],[5,0],[5,20],[0,0]]]}}\n]}\n")
unfolding digits shortest fewest items_texts after_items asked_from leaf_geometry
taken_apart = refl

-- an id within a collection would be lost: it stands in the second Feature
lost : geo_text usual (document (record {
  name = codes "\"a\"";
  items = Open bare ∷ null 0 (codes "7") ∷ Open bare ∷ null 1 (codes "8") ∷ Close ∷ Close ∷ [];
} ∷ [])) ≡ Err (nested 1)
unfolding digits shortest fewest items_texts after_items asked_from leaf_geometry
lost = refl

-- ---- layers

no_features : geo_text usual (document (collection (codes "\"a\"") [] ∷ []))
    ≡ Ok (codes "{\"type\":\"FeatureCollection\",\"name\":\"a\",\"features\":[]}\n")
unfolding digits shortest fewest items_texts after_items asked_from leaf_geometry
no_features = refl

none : geo_text usual (document []) ≡ Err no_layer
unfolding asked_from
none = refl

two : geo_text usual (document (collection (codes "\"a\"") [] ∷ collection (codes "\"b\"") [] ∷ [])) ≡ Err several_layers
unfolding asked_from
two = refl

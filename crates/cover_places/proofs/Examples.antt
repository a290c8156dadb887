-- Worked examples: the places of a strip that two squares have in common, and of a lake, under a transform and without.
use Rattle.kit_words.proofs.Common.{◌≡◌, ℕ, refl, pos, [], ◌∷◌, ◌++◌, List, None, Some, codes, digits}
use Rattle.grid_geometry.specs.Common.{Position, position}
use Rattle.layer_faces.specs.declared.kind.Kind.TheVariants.{Overlap, Lake}
use Rattle.cover_report.specs.Common.{FaceTold, Wants}
use Rattle.cover_places.specs.Places.{place_of, places_of}
use Rattle.cover_places.specs.Text.{border_text, point_text, topology_text}

abbrev at : ℕ → ℕ → Position
at x y = position (pos x) (pos y)

-- two squares overlap in a strip of a unit
abbrev strip : FaceTold
strip = record {
  kind = Overlap;
  features = 0 ∷ 1 ∷ [];
  area = pos 20;
  width = 1;
  from = at 9 10;
  to = at 9 0;
  sides = (at 9 10, at 9 0) ∷ (at 9 0, at 10 0) ∷ (at 10 10, at 9 10) ∷ (at 10 0, at 10 10) ∷ [];
}

-- a square hole is not filled
abbrev lake : FaceTold
lake = record {
  kind = Lake;
  features = 3 ∷ [];
  area = pos 50;
  width = 3;
  from = at 5 10;
  to = at 5 5;
  sides = (at 5 10, at 5 5) ∷ (at 5 5, at 10 5) ∷ (at 10 10, at 5 10) ∷ (at 10 5, at 10 10) ∷ [];
}

point : point_text (place_of 0 strip)
    ≡ codes "{\"type\":\"Point\",\"properties\":{\"kind\":\"overlap\",\"number\":0,\"features\":[0,1],\"area\":20,\"width\":1},\"coordinates\":[9,10]}"
unfolding digits
point = refl

-- the arcs of the lake come behind the four of the strip
border : border_text 4 (place_of 0 lake)
    ≡ codes "{\"type\":\"MultiLineString\",\"properties\":{\"kind\":\"lake\",\"number\":0,\"features\":[3],\"area\":50,\"width\":3},\"arcs\":[[4],[5],[6],[7]]}"
unfolding digits
border = refl

-- the lake stands behind the strip, whatever the order of the faces and the most lines are, and has the first number of its kind
abbrev wants : Wants
wants = record { layers = []; width = None; area = None; most = 0 }

in_order : places_of wants (lake ∷ strip ∷ strip ∷ []) ≡ place_of 0 strip ∷ place_of 1 strip ∷ place_of 0 lake ∷ []
in_order = refl

-- the whole text of a lake, and under a transform the differences of its arcs
abbrev lake_objects : List ℕ
lake_objects =
    codes ",\"objects\":{\"places\":{\"type\":\"GeometryCollection\",\"geometries\":[{\"type\":\"Point\",\"properties\":{\"kind\":\"lake\",\"number\":0,\"features\":[3],\"area\":50,\"width\":3},\"coordinates\":[5,10]}]},\"borders\":{\"type\":\"GeometryCollection\",\"geometries\":[{\"type\":\"MultiLineString\",\"properties\":{\"kind\":\"lake\",\"number\":0,\"features\":[3],\"area\":50,\"width\":3},\"arcs\":[[0],[1],[2],[3]]}]}}"

whole : topology_text None (place_of 0 lake ∷ [])
    ≡ codes "{\"type\":\"Topology\"" ++ (lake_objects ++ codes ",\"arcs\":[[[5,10],[5,5]],[[5,5],[10,5]],[[10,10],[5,10]],[[10,5],[10,10]]]}")
unfolding digits
whole = refl

under : topology_text (Some (codes "{}")) (place_of 0 lake ∷ [])
    ≡ codes "{\"type\":\"Topology\",\"transform\":{}" ++ (lake_objects ++ codes ",\"arcs\":[[[5,10],[0,-5]],[[5,5],[5,0]],[[10,10],[-5,0]],[[10,5],[0,5]]]}")
unfolding digits
under = refl

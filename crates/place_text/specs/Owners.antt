-- Which features a vertex, a segment, or a pair of segments belongs to.
use Rattle.std.specs.Prelude.{ℕ, Bool, ◌||◌, if◌then◌else◌, List, [], ◌∷◌, map}
use Rattle.std.specs.List.{flat_map, list_any}
use Rattle.grid_geometry.specs.Common.{Position, position_eq, Segment, segment_eq}
use Rattle.walk_faults.specs.declared.findings.Crossing.{Crossing}
use Rattle.walk_faults.specs.declared.findings.Findings.{Findings}
use Rattle.walk_faults.specs.Common.{walk_segments, flat_map_at}
use Rattle.place_text.specs.Places.{list_at}

-- ---- what a feature has, which is given by its polygons and their rings, which are walks

-- the positions of its walks, as often as they stand there
abbrev pub vertices_of_feature : List (List (List Position)) → List Position
vertices_of_feature polygons = flat_map (λ rings. flat_map (λ walk. walk) rings) polygons

-- the segments of the edges of its walks, as often as they stand there
abbrev pub feature_segments : List (List (List Position)) → List Segment
feature_segments polygons = flat_map (λ rings. flat_map walk_segments rings) polygons

-- a walk of the feature has the vertex
abbrev pub has_vertex : Position → List (List (List Position)) → Bool
has_vertex p feature = list_any (position_eq p) (vertices_of_feature feature)

-- a walk of the feature has an edge with this segment
abbrev pub has_edge : Segment → List (List (List Position)) → Bool
has_edge s feature = list_any (segment_eq s) (feature_segments feature)

-- ---- which features have it

-- the number of a feature that passes
abbrev pub number_if : {X : Type 0} → (X → Bool) → ℕ → X → List ℕ
number_if test n x = if test x then (n ∷ []) else []

-- the numbers of the features that pass, from 0: ascending, each once
abbrev pub numbers_where : {X : Type 0} → (X → Bool) → List X → List ℕ
numbers_where test features = flat_map_at (number_if test) 0 features

-- those that have the vertex
abbrev pub vertex_features : List (List (List (List Position))) → Position → List ℕ
vertex_features features p = numbers_where (has_vertex p) features

-- those that have the segment
abbrev pub segment_features : List (List (List (List Position))) → Segment → List ℕ
segment_features features s = numbers_where (has_edge s) features

-- those that have one of the two segments or both
abbrev pub pair_features : List (List (List (List Position))) → Crossing → List ℕ
pair_features features c =
    numbers_where (λ feature. has_edge c.first feature || has_edge c.second feature) features

-- ---- what is told

-- the features of each vertex, of each segment, and of each pair of segments by its number
pub record Telling : Type 0 where
  pub vertex : Position → List ℕ
  pub segment : Segment → List ℕ
  pub pair : ℕ → List ℕ

-- what is reported of a map and of the pairs of segments that cross in it
abbrev pub telling : {A : Type 0} → List (List (List (List Position))) → Findings A → Telling
telling features found = record {
  vertex = vertex_features features;
  segment = segment_features features;
  pair = list_at (map (pair_features features) found.crossings.items);
}

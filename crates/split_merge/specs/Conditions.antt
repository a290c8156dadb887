-- The conditions of edits of features, in groups.
use Rattle.std.specs.Prelude.{ℕ, not, ◌&&◌, ◌==◌, List, [], ◌∷◌, ◌++◌, Option}
use Rattle.std.specs.List.{list_any}
use Rattle.grid_geometry.specs.Common.{Position}
use Rattle.ring_machine.specs.Common.{is_distinct, Document, has_feature, is_vertex, Path, is_cut_by, Refusal}
use Rattle.ring_machine.specs.Common.{NoFeature, NoCollection, NotOnOuterRing, RepeatedPoint, Occupied, SegmentExists}
use Rattle.ring_machine.specs.Common.{SameFeature, ◌unless◌, no_feature, outer_of, feature_at, is_layer, positions_of}
use Rattle.ring_machine.specs.Common.{is_path_segment, ring_refusals}

-- feature n is there, in a collection, and has a polygon that the path cuts
abbrev pub place_refusals : Document → ℕ → Path → List (Option Refusal)
place_refusals d n path =
    NoFeature unless has_feature d n ∷
    NoCollection unless not (is_layer d n) ∷
    NotOnOuterRing unless list_any (is_cut_by path) (feature_at d n).polygons ∷ []

-- the path has no position twice, its inner ones are no vertices, and none of its segments is one
-- of the map
abbrev pub path_refusals : Document → Path → List (Option Refusal)
path_refusals d path =
    RepeatedPoint unless is_distinct (positions_of path) ∷
    Occupied unless not (list_any (is_vertex d) path.inner) ∷
    SegmentExists unless not (is_path_segment d path) ∷ []

-- what is asked of a split before any two segments are tested
abbrev pub early_refusals : Document → ℕ → Path → List (Option Refusal)
early_refusals d n path = place_refusals d n path ++ path_refusals d path

-- both features are there, and are two
abbrev pub pair_refusals : Document → ℕ → ℕ → List (Option Refusal)
pair_refusals d n m =
    NoFeature unless (has_feature d n && has_feature d m) ∷
    SameFeature unless not (n == m) ∷ []

-- each feature has one polygon, and their outer rings can be joined
abbrev pub outline_refusals : Document → ℕ → ℕ → List (Option Refusal)
outline_refusals d n m = ring_refusals (outer_of (feature_at d n)) (outer_of (feature_at d m))

-- the outer ring of the only one of these polygons
abbrev pub only_outer : List (List (List Position)) → Option (List Position)
only_outer polygons = outer_of (record no_feature { polygons = polygons })

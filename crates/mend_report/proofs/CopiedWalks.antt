-- A copy of walks has their positions.
use Rattle.kit_words.proofs.Common.{◌≡◌, List, map, Vec, AllZip, each_same}
use Rattle.std.specs.Vec.{vec_len}
use Rattle.grid_geometry.specs.Common.{Position}
use Rattle.topo_outline.proofs.Common.{copied_map}
use Rattle.topo_reader.specs.Common.{positions_of, polygon_positions, feature_positions}

module _ {A : Type 0} where
  -- one walk is a copy of another, and likewise for polygons and features
  abbrev pub SameWalk : Vec Position A → Vec Position A → Type 0
  SameWalk v w = AllZip (λ p q. q ≡ p) v.items w.items × (vec_len w ≡ vec_len v)

  abbrev pub SamePolygon : Vec (Vec Position A) A → Vec (Vec Position A) A → Type 0
  SamePolygon v w = AllZip SameWalk v.items w.items × (vec_len w ≡ vec_len v)

  abbrev pub SameFeature : Vec (Vec (Vec Position A) A) A → Vec (Vec (Vec Position A) A) A → Type 0
  SameFeature v w = AllZip SamePolygon v.items w.items × (vec_len w ≡ vec_len v)

  polygon_copied : (v w : Vec (Vec Position A) A) → SamePolygon v w → polygon_positions w ≡ polygon_positions v
  polygon_copied v w k = copied_map SameWalk positions_of (λ x y h. each_same x.items y.items h.0) v.items w.items k.0

  feature_copied : (v w : Vec (Vec (Vec Position A) A) A) → SameFeature v w → feature_positions w ≡ feature_positions v
  feature_copied v w k = copied_map SamePolygon polygon_positions polygon_copied v.items w.items k.0

  pub walks_copied : (vs ws : List (Vec (Vec (Vec Position A) A) A)) → AllZip SameFeature vs ws
      → map feature_positions ws ≡ map feature_positions vs
  walks_copied vs ws k = copied_map SameFeature feature_positions feature_copied vs ws k

-- What the code holds, seen as lists.
use Rattle.std.specs.Prelude.{List, Vec, map}
use Rattle.grid_geometry.specs.Common.{Position}
use Rattle.walk_faults.specs.declared.walks.Walk.{Walk}
use Rattle.walk_faults.specs.Walks.{Placed}
use Rattle.ring_parts.specs.Common.{polygons_seen}

-- a walk with its place
abbrev pub walk_seen : Walk → Placed
walk_seen walk = (walk.at, walk.positions.now)

-- the polygons of each feature
abbrev pub features_seen : {A : Type 0}
    → List (Vec (Vec (Vec Position A) A) A) → List (List (List (List Position)))
features_seen features = map (λ feature. polygons_seen feature.items) features

-- Segments that come into an index one after another.
use Rattle.std.specs.Prelude.{List, ◌++◌}
use Rattle.std.specs.List.{flat_map}
use Rattle.grid_geometry.specs.Common.{Position, Segment}
use Rattle.local_planarity.specs.Common.{IsFilled}
use Rattle.walk_faults.specs.Common.{walk_segments}
use Rattle.cover_report.specs.declared.conflict.Filling.{Filling}

-- these segments came to those that were there, whichever they are
abbrev pub Fills : {A : Type 0} → Filling A → List Segment → Filling A → Type 0
Fills before more after =
    (ss : List Segment) → IsFilled before.index before.first ss → IsFilled after.index after.first (ss ++ more)

-- the segments of a polygon, and of a feature, as often as they stand there
abbrev pub polygon_segments : List (List Position) → List Segment
polygon_segments rings = flat_map walk_segments rings

abbrev pub feature_segments : List (List (List Position)) → List Segment
feature_segments polygons = flat_map polygon_segments polygons

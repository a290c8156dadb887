use Rattle.kit_words.proofs.Common.{[], take, flat_map}
use Rattle.grid_geometry.specs.Common.{edges}
use Rattle.ring_machine.specs.Common.{feature_at}
use Rattle.arc_store.specs.Common.{ListsRingNames}
use Rattle.point_queries.proofs.sharing.neighbours.Given as goal

-- the rings that have a segment of the polygons so far
abbrev pub invariant-loop-polygon : goal.invariant-loop-polygon
invariant-loop-polygon g l =
    ListsRingNames l.map.doc (flat_map (flat_map edges) (take l.polygon (feature_at l.map.doc l.f).polygons)) [] l.names.items

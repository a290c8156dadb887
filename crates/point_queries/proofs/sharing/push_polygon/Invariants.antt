use Rattle.kit_words.proofs.Common.{[], take, get_or, flat_map}
use Rattle.grid_geometry.specs.Common.{edges}
use Rattle.ring_machine.specs.Common.{feature_at}
use Rattle.arc_store.specs.Common.{ListsRingNames}
use Rattle.point_queries.proofs.sharing.push_polygon.Given as goal

-- the rings that have a segment of the rings so far
abbrev pub invariant-loop-ring : goal.invariant-loop-ring
invariant-loop-ring g l =
    ListsRingNames l.map.doc (flat_map edges (take l.ring (get_or (feature_at l.map.doc l.f).polygons l.polygon [])))
    l.fn.out.items l.out.items

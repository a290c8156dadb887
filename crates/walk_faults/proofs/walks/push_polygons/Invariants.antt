use Rattle.kit_words.proofs.Common.{◌≡◌, ◌++◌, map, take}
use Rattle.walk_faults.specs.Common.{walks_in_feature, walk_seen}
use Rattle.ring_parts.specs.Common.{polygons_seen}
use Rattle.walk_faults.proofs.walks.push_polygons.Given as goal

-- the walks of the polygons so far are appended
abbrev pub invariant-loop-polygon : goal.invariant-loop-polygon
invariant-loop-polygon g l =
    map walk_seen l.walks.items ≡ map walk_seen l.fn.walks.items ++ walks_in_feature l.feature (polygons_seen (take l.polygon l.polygons))

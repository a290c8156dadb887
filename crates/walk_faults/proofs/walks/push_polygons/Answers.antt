use Rattle.kit_words.proofs.Common.{◌++◌, ap, ◌∙◌, map}
use Rattle.walk_faults.specs.Common.{walks_in_polygon, walk_seen}
use Rattle.walk_faults.proofs.Walking.{one_appended}
use Rattle.ring_parts.specs.Common.{rings_seen}
use Rattle.walk_faults.proofs.walks.push_polygons.Goals as goal

pub loop-polygon-preserved : goal.loop-polygon-preserved
loop-polygon-preserved g c =
    one_appended (walks_in_polygon c.args.feature) (λ rings. rings_seen rings.items) c.args.polygons.now c.loop-polygon.polygon c.index-polygons-polygon.result
    (map walk_seen c.args.walks.now.items) (map walk_seen c.loop-polygon.walks.items) (map walk_seen c.push_rings.new.walks.items)
    c.loop-polygon-test.true c.index-polygons-polygon.is c.loop-polygon.invariant
    (c.in_ok-push_rings.ensures
    ∙ ap (λ z. map walk_seen c.loop-polygon.walks.items ++ walks_in_polygon c.args.feature c.loop-polygon.polygon (rings_seen z)) c.as_slice.ensures.value)

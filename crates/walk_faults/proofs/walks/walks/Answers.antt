use Rattle.kit_words.proofs.Common.{◌++◌, [], ap, ◌∙◌, map}
use Rattle.walk_faults.specs.Common.{walks_in_feature, walk_seen}
use Rattle.walk_faults.proofs.Walking.{one_appended}
use Rattle.ring_parts.specs.Common.{polygons_seen}
use Rattle.walk_faults.proofs.walks.walks.Goals as goal

pub loop-feature-preserved : goal.loop-feature-preserved
loop-feature-preserved g c =
    one_appended walks_in_feature (λ polygons. polygons_seen polygons.items) c.args.polygons.now c.loop-feature.feature c.index-polygons-feature.result
    [] (map walk_seen c.loop-feature.found.items) (map walk_seen c.push_polygons.new.walks.items)
    c.loop-feature-test.true c.index-polygons-feature.is c.loop-feature.invariant
    (c.in_ok-push_polygons.ensures
    ∙ ap (λ z. map walk_seen c.loop-feature.found.items ++ walks_in_feature c.loop-feature.feature (polygons_seen z)) c.as_slice.ensures.value)

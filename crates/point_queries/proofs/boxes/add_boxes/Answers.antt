use Rattle.kit_words.proofs.Common.{ap, ◌∙◌, on_ok_weaker}
use Rattle.ring_parts.specs.Common.{polygons_seen}
use Rattle.point_queries.proofs.RingsCovered.{feature_rings, feature_covered}
use Rattle.point_queries.proofs.boxes.add_boxes.Goals as goal

pub add_polygons-requires : goal.add_polygons-requires
add_polygons-requires g c =
    feature_rings c.args.map.now.doc c.args.n (polygons_seen c.as_slice.result.now) c.frame.ensures.proper
    (ap (λ z. polygons_seen z) c.as_slice.ensures.value ∙ c.in_ok-polygons.ensures)

pub returns-clause-covered : goal.returns-clause-covered
returns-clause-covered g c =
    on_ok_weaker c.add_polygons.result
    (feature_covered c.args.map.now.doc c.args.n (polygons_seen c.as_slice.result.now) c.add_polygons.new.boxes c.frame.ensures.formed
    (ap (λ z. polygons_seen z) c.as_slice.ensures.value ∙ c.in_ok-polygons.ensures))
    c.add_polygons.ensures.covered

use Rattle.kit_words.proofs.Common.{◌∙◌, ap, flat_map, map, subst, take_all}
use Rattle.ring_parts.specs.Common.{polygons_seen}
use Rattle.local_planarity.specs.Common.{IsFilled}
use Rattle.local_planarity.proofs.Common.{filled_none}
use Rattle.topo_reader.specs.Common.{feature_positions, view_raw}
use Rattle.cover_report.specs.Filling.{feature_segments}
use Rattle.cover_report.proofs.Filled.{feature_came, pair_found}
use Rattle.cover_report.proofs.conflict.first_pair.Goals as goal

pub loop-polygons-init : goal.loop-polygons-init
loop-polygons-init g c = filled_none c.prepare.new.self c.in_ok-prepare.ensures.empty

pub loop-polygons-preserved : goal.loop-polygons-preserved
loop-polygons-preserved g c =
    feature_came feature_positions c.as_slice-polygons-items.result.now c.loop-polygons.polygons-index c.polygons-item.result (polygons_seen c.as_slice-in-loop-polygons.result.now)
    c.loop-polygons.filling c.put_feature.new.self c.loop-polygons-test.true c.polygons-item.is (ap polygons_seen c.as_slice-in-loop-polygons.ensures.value)
    c.loop-polygons.invariant c.in_ok-put_feature.ensures

pub returns : goal.returns
returns g c =
    pair_found (view_raw c.args.raw.now) c.requires c.loop-polygons.filling
    (subst (λ xs. IsFilled c.loop-polygons.filling.index c.loop-polygons.filling.first (flat_map feature_segments (map feature_positions xs)))
    (take_all c.loop-polygons.polygons-index c.as_slice-polygons-items.result.now c.loop-polygons-test.false ∙ c.as_slice-polygons-items.ensures.value) c.loop-polygons.invariant)

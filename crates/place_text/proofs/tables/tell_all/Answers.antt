use Rattle.kit_words.proofs.Common.{subst}
use Rattle.place_text.specs.Common.{vertices_of_feature, feature_segments, Tells}
use Rattle.place_text.proofs.Telling.{feature_step}
use Rattle.ring_parts.specs.Common.{polygons_seen}
use Rattle.place_text.proofs.tables.tell_all.Goals as goal

pub loop-feature-preserved : goal.loop-feature-preserved
loop-feature-preserved g c =
    feature_step (λ feature. polygons_seen feature.items) c.args.walks.now c.loop-feature.feature c.index-walks-feature.result
    c.args.tables.now c.loop-feature.tables c.tell_feature.new.tables c.loop-feature-test.true c.index-walks-feature.is c.loop-feature.invariant
    (subst (λ polygons. Tells c.loop-feature.feature (vertices_of_feature (polygons_seen polygons)) (feature_segments (polygons_seen polygons)) c.loop-feature.tables c.tell_feature.new.tables)
    c.as_slice.ensures.value c.in_ok-tell_feature.ensures)

use Rattle.kit_words.proofs.Common.{subst, flat_map}
use Rattle.walk_faults.specs.Common.{walk_segments}
use Rattle.place_text.specs.Common.{Tells}
use Rattle.place_text.proofs.Telling.{level_step}
use Rattle.ring_parts.specs.Common.{rings_seen}
use Rattle.place_text.proofs.tables.tell_feature.Goals as goal

pub loop-rings-preserved : goal.loop-rings-preserved
loop-rings-preserved g c =
    level_step c.args.feature (λ rings. flat_map (λ walk. walk) rings) (λ rings. flat_map walk_segments rings) (λ polygon. rings_seen polygon.items)
    c.args.polygons.now c.loop-rings.rings-index c.rings-item.result
    c.args.tables.now c.loop-rings.tables c.tell_polygon.new.tables c.loop-rings-test.true c.rings-item.is c.loop-rings.invariant
    (subst (λ rings. Tells c.args.feature (flat_map (λ walk. walk) (rings_seen rings)) (flat_map walk_segments (rings_seen rings)) c.loop-rings.tables c.tell_polygon.new.tables)
    c.as_slice.ensures.value c.in_ok-tell_polygon.ensures)

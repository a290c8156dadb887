use Rattle.kit_words.proofs.Common.{arith, map-append}
use Rattle.topo_reader.specs.Common.{feature_uses, feature_of, all_rings}
use Rattle.topo_outline.proofs.Common.{each_at_turn, each_at_stop}
use Rattle.topo_reader.proofs.rings.all_rings.Goals as goal

pub returns-in-Err : goal.returns-in-Err
unfolding all_rings
returns-in-Err g c = each_at_stop c.in-Err.fault (feature_of c.args.closed) feature_uses _ c.args.features.now c.loop-feature.feature c.index-features-feature.result _ (omega arith) c.index-features-feature.is (rw c.as_slice.ensures.value at c.in-Err.ensures) c.loop-feature.invariant

pub loop-feature-preserved : goal.loop-feature-preserved
loop-feature-preserved g c = rw (c.in_ok-push.ensures.items, map-append) (each_at_turn (feature_of c.args.closed) feature_uses _ _ c.args.features.now c.loop-feature.feature c.index-features-feature.result _ (omega arith) c.index-features-feature.is (rw c.as_slice.ensures.value at c.in-Ok.ensures) c.loop-feature.invariant)

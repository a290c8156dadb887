use Rattle.kit_words.proofs.Common.{arith, map, ap, [], length-map}
use Rattle.map_frame.specs.Common.{feature_numbers, polygon_numbers}
use Rattle.map_frame.proofs.BuiltNames.{feature_named, all_named}
use Rattle.map_frame.proofs.ReadLists.{mapped_got}
use Rattle.map_frame.proofs.names.name_all.Goals as goal

pub loop-feature-preserved : goal.loop-feature-preserved
loop-feature-preserved g c =
    let features = c.args.features.now in
    let n = c.loop-feature.feature in
    feature_named (map feature_numbers features) n [] c.loop-feature.names.items c.loop-feature.invariant
    c.name_feature.new.names.items (map polygon_numbers c.as_slice.result.now)
    (mapped_got feature_numbers features n c.index-features-feature.result (map polygon_numbers c.as_slice.result.now)
    (omega (arith, c.loop-feature-test.true)) c.index-features-feature.is (ap (map polygon_numbers) c.as_slice.ensures.value))
    c.in_ok-name_feature.ensures

pub returns : goal.returns
returns g c =
    let features = c.args.features.now in
    all_named (map feature_numbers features) c.loop-feature.feature c.loop-feature.names.items
    (omega (arith, c.loop-feature-test.false, length-map features feature_numbers)) c.loop-feature.invariant

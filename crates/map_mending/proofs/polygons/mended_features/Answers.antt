use Rattle.kit_words.proofs.Common.{◌≡◌, ◌+◌, [], ◌∷◌, ◌++◌, List, map, take, sym, ap, ◌∙◌, subst, map-append}
use Rattle.topo_reader.specs.Common.{Polygons, polygon_positions, feature_positions}
use Rattle.segment_paths.specs.Common.{paths_seen}
use Rattle.map_mending.specs.Common.{StandsFor, TellsParted, AreUnpartedIn, AreUnparted, OnlyUnparted}
use Rattle.map_mending.proofs.Failing.{handed, seen_at, in_feature}
use Rattle.map_mending.proofs.Stands.{tells_step}
use Rattle.map_mending.proofs.polygons.mended_features.Goals as goal

pub loop-feature-preserved : goal.loop-feature-preserved
loop-feature-preserved g c =
    let l = c.loop-feature in
    let paths = paths_seen c.args.paths.now in
    let x = c.index-features-feature.result in
    let made = feature_positions c.in_ok-mended.mended in
    let stands : StandsFor paths l.feature (feature_positions x) made l.parted.items c.mended_feature.new.parted.items =
    subst (λ ps. StandsFor paths l.feature (map polygon_positions ps) made l.parted.items c.mended_feature.new.parted.items) c.as_slice.ensures.value c.in_ok-mended.ensures.stands in
    let grown : map feature_positions c.push.new.self.items ≡ map feature_positions l.found.items ++ made ∷ [] =
    ap (λ ps. map feature_positions ps) c.in_ok-push.ensures.items ∙ map-append feature_positions l.found.items (c.in_ok-mended.mended ∷ []) in
    subst (λ (ms : List Polygons). TellsParted paths (map feature_positions (take (l.feature + 1) c.args.features.now)) ms c.mended_feature.new.parted.items)
    (sym grown)
    (tells_step paths feature_positions c.args.features.now l.feature x (map feature_positions l.found.items) l.parted.items c.mended_feature.new.parted.items made
    c.loop-feature-test.true c.index-features-feature.is l.invariant stands)

pub returns-in_err-mended-clause-fault : goal.returns-in_err-mended-clause-fault
returns-in_err-mended-clause-fault g c =
    let n = c.loop-feature.feature in
    let paths = paths_seen c.args.paths.now in
    let all = map feature_positions c.args.features.now in
    let x = c.index-features-feature.result in
    let fault = c.in_err-mended.field-0.0 in
    let apart : OnlyUnparted (λ m k. (m ≡ n) × AreUnpartedIn paths (feature_positions x) k) fault =
    subst (λ ps. OnlyUnparted (λ m k. (m ≡ n) × AreUnpartedIn paths (map polygon_positions ps) k) fault) c.as_slice.ensures.value c.in_err-mended.ensures.fault in
    handed (OnlyUnparted (AreUnparted paths all)) fault c.from_residual.result c.from_residual.ensures.1
    (in_feature paths all (feature_positions x) n (seen_at feature_positions c.args.features.now n x c.loop-feature-test.true c.index-features-feature.is) fault apart)

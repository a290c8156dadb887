use Rattle.kit_words.proofs.Common.{ap, map}
use Rattle.topo_outline.specs.Common.{view_kept}
use Rattle.geo_features.specs.Names.{feature_members}
use Rattle.geo_features.proofs.Carrying.{stops_first}
use Rattle.geo_features.proofs.FeatureTexts.{end_put}
use Rattle.geo_features.proofs.features.push_own.Goals as goal

pub returns-in-Err : goal.returns-in-Err
returns-in-Err g c = stops_first c.in-Err.fault (feature_members (map (λ word. word.now) c.args.words.now) (map view_kept c.args.members.now)) _ c.in-Err.ensures

pub returns : goal.returns
returns g c = end_put c.args.text.now.items _ _ _ _ c.in-Ok.ensures (ap (map view_kept) c.as_slice.ensures.value) c.in_ok-push_end.ensures

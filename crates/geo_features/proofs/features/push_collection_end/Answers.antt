use Rattle.kit_words.proofs.Common.{codes, map}
use Rattle.topo_outline.specs.Common.{view_kept}
use Rattle.geo_features.specs.Features.{others_text}
use Rattle.geo_features.proofs.Carrying.{appends_front}
use Rattle.geo_features.proofs.features.push_collection_end.Goals as goal

pub returns : goal.returns
returns g c =
    appends_front c.args.text.now.items _ _ (codes "]") _ (others_text (map view_kept c.args.members.now))
    c.in_ok-extend_from_slice.ensures.items c.push_others.ensures

use Rattle.kit_words.proofs.Common.{ap, ◌∙◌, map}
use Rattle.topo_outline.specs.Common.{view_kept}
use Rattle.map_frame.proofs.reading.FeatureView.members.Goals as goal

pub returns : goal.returns
returns g c = ap (map view_kept) c.as_slice.ensures.value ∙ ap (λ t. t.members) c.texts.view_is ∙ ap (λ s. s.members) c.self.view_is

use Rattle.kit_words.proofs.Common.{ap, ◌∙◌}
use Rattle.map_frame.proofs.reading.FeatureView.properties.Goals as goal

pub returns : goal.returns
returns g c = ap (λ t. t.properties) c.texts.view_is ∙ ap (λ s. s.properties) c.self.view_is

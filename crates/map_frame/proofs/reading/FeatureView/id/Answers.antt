use Rattle.kit_words.proofs.Common.{ap, ◌∙◌}
use Rattle.map_frame.proofs.reading.FeatureView.id.Goals as goal

pub returns : goal.returns
returns g c = c.text.ensures ∙ ap (λ t. t.id) c.texts.view_is ∙ ap (λ s. s.id) c.self.view_is

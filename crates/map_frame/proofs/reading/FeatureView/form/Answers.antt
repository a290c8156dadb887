use Rattle.kit_words.proofs.Common.{ap, ◌∙◌}
use Rattle.map_frame.proofs.reading.FeatureView.form.Goals as goal

pub returns : goal.returns
returns g c = ap (λ t. t.form) c.texts.view_is ∙ ap (λ s. s.form) c.self.view_is

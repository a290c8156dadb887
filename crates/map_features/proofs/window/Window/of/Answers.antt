use Rattle.kit_words.proofs.Common.{subst}
use Rattle.map_features.specs.Common.{IsWithin}
use Rattle.map_features.proofs.WithinLemmas.{shown_around}
use Rattle.map_features.proofs.window.Window.of.Goals as goal

pub returns : goal.returns
returns c = λ p h.
    shown_around c.in-Some.bounds c.around.result p c.around.ensures
    (subst (λ o. IsWithin o p) c.in-Some.is h)

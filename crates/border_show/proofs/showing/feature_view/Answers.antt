use Rattle.kit_words.proofs.Common.{refl}
use Rattle.border_show.proofs.showing.feature_view.Goals as goal

pub returns-in-Ok : goal.returns-in-Ok
returns-in-Ok c = (
  record { shown = c.in-Ok.shown; named = rw c.in-Ok.is at c.in_ok-shown.ensures; part = refl; outlined = refl },
  refl,
)

use Rattle.kit_words.proofs.Common.{◌<◌, sym, ap, ◌∙◌, subst}
use Rattle.map_frame.specs.Common.{IsNumberOf, Framed}
use Rattle.feature_exchange.proofs.exchanging.make_room.Goals as goal

pub returns-clause-room : goal.returns-clause-room
returns-clause-room g c =
    λ r i. subst (λ z. r < z) (sym (ap (λ (f : Framed). f.room) c.in_ok-grow_after.ensures.ok))
    (c.in_ok-reserve_names.ensures.room r (subst (λ z. IsNumberOf z r) (sym (c.as_slice.ensures.value ∙ c.in_ok-numbers.ensures)) i))

use Rattle.kit_words.proofs.Common.{sym, ap, subst}
use Rattle.map_frame.specs.Common.{IsNumberOf}
use Rattle.feature_exchange.specs.Common.{numbers_of}
use Rattle.feature_exchange.proofs.exchanging.lay_ready.Goals as goal

pub returns-clause-room : goal.returns-clause-room
returns-clause-room g c =
    λ r i. c.in_ok-make_room.ensures.room r (subst (λ z. IsNumberOf z r) (sym (ap numbers_of c.as_slice.ensures.value)) i)

use Rattle.kit_words.proofs.Common.{◌∷◌, [], sym, ap, ◌∙◌, subst, get_or_read}
use Rattle.map_frame.specs.Common.{feature_numbers}
use Rattle.feature_exchange.specs.Common.{numbered, put_in, IsReady}
use Rattle.feature_exchange.proofs.exchanging.exchange_at.Goals as goal

pub exchange_one-requires : goal.exchange_one-requires
exchange_one-requires g c =
    subst (λ z. IsReady c.args.frame.now (numbered z (feature_numbers c.args.numbers) ∷ [])) c.index-changes-at.is
    (c.requires.ready c.index-changes-at.result c.index-changes-at.is)

pub returns-clause-exchanged : goal.returns-clause-exchanged
returns-clause-exchanged g c =
    λ k e. c.exchange_one.ensures.exchanged
    ∙ ap (λ z. put_in c.args.frame.now (numbered z (feature_numbers c.args.numbers) ∷ []))
    (sym (get_or_read c.args.changes.now c.args.at k c.requires.within e c.index-changes-at.result))

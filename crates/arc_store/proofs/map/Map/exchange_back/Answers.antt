use Rattle.kit_words.proofs.Common.{None, sym, ap, ◌∙◌, subst}
use Rattle.feature_exchange.specs.Common.{seen}
use Rattle.arc_store.specs.Common.{MayExchange, exchanged_state}
use Rattle.arc_store.proofs.RestorePlan.{may_back}
use Rattle.arc_store.proofs.map.Map.exchange_back.Goals as goal

pub exchange-requires : goal.exchange-requires
exchange-requires g c =
    subst (λ xs. MayExchange None (seen xs) c.args.self.now) (sym c.as_mut_slice.ensures.value)
    (may_back c.args.self.now (seen c.args.changes.items) c.requires.undoes c.requires.texts)

pub returns-in-Ok-clause-exchanged : goal.returns-in-Ok-clause-exchanged
returns-in-Ok-clause-exchanged g c =
    c.in-Ok.ensures.exchanged ∙ ap (λ xs. exchanged_state None (seen xs) c.args.self.now) c.as_mut_slice.ensures.value

use Rattle.kit_words.proofs.Common.{sym, subst, Contains}
use Rattle.feature_exchange.proofs.RingAround.{among_cons}
use Rattle.feature_exchange.proofs.MarkedRing.{keys_turned, start_within}
use Rattle.feature_exchange.proofs.marked_ring.least_start.Goals as goal

pub least_place-requires-clause-placed : goal.least_place-requires-clause-placed
least_place-requires-clause-placed g c = λ k h.
    c.requires.placed k (subst (λ ks. Contains ks k) (sym c.in-Some.ensures.steps) (among_cons c.in-Some.first c.next.new.self k h))

pub returns-in-Some-clause-within : goal.returns-in-Some-clause-within
returns-in-Some-clause-within g c =
    start_within c.args.vertices.now c.args.keys c.in-Some.first c.next.new.self c.pos.result c.least_place.result.0 c.in-Some.ensures.steps c.pos.ensures.value c.least_place.ensures.place

pub returns-in-Some-clause-turned : goal.returns-in-Some-clause-turned
returns-in-Some-clause-turned g c =
    keys_turned c.args.vertices.now c.args.keys c.in-Some.first c.next.new.self c.pos.result c.least_place.result.0 c.in-Some.ensures.steps c.pos.ensures.value c.least_place.ensures.place

use Rattle.kit_words.proofs.Common.{arith, sym, ap, ◌∙◌, subst, length, drop, Contains}
use Rattle.feature_exchange.specs.Common.{positions_left, IsAround}
use Rattle.feature_exchange.proofs.RingAround.{among_cons, begun_left, begun_around}
use Rattle.feature_exchange.proofs.ring_iter.RingIter.begin.Goals as goal

pub least_place-place-requires-clause-placed : goal.least_place-place-requires-clause-placed
least_place-place-requires-clause-placed g c =
    let whole = sym c.in_ok-next.ensures.steps ∙ c.again-rest.ensures in
    λ j h. c.requires.placed j (subst (λ z. Contains z j) whole (among_cons c.in_ok-next.field-0 c.next.new.self j h))

pub invariant_of-result : goal.invariant_of-result
invariant_of-result g c =
    let all = c.args.all in
    let left = c.least_place-place.result.1 in
    let whole = sym c.again-rest.ensures ∙ c.in_ok-next.ensures.steps in
    let n = c.least_place-place.result.0 in
    subst (λ z. IsAround c.args.vertices.now all z left) (sym (c.skip.ensures ∙ ap (drop n) c.again-rest-2.ensures)) (begun_around c.args.vertices.now all n left (omega (arith, c.least_place-place.ensures.count, ap length whole)) c.requires.placed)

pub returns-clause-some : goal.returns-clause-some
returns-clause-some g c =
    let all = c.args.all in
    let ks = c.next.new.self in
    let n = c.least_place-place.result.0 in
    let left = c.least_place-place.result.1 in
    let whole = sym c.again-rest.ensures ∙ c.in_ok-next.ensures.steps in
    ap (λ z. positions_left c.args.vertices.now all z left) (c.skip.ensures ∙ ap (drop n) c.again-rest-2.ensures)
    ∙ begun_left c.args.vertices.now all c.in_ok-next.field-0 ks c.pos-first.result n left whole c.pos-first.ensures.value c.least_place-place.ensures.place c.least_place-place.ensures.count

use Rattle.kit_words.proofs.Common.{◌≡◌, ◌++◌, ◌∷◌, [], sym, ap, ◌∙◌}
use Rattle.map_frame.specs.declared.names.RingName.{RingName}
use Rattle.point_queries.specs.Common.{odd, is_name}
use Rattle.point_queries.proofs.Odds.{odd-pushed, odd-popped}
use Rattle.point_queries.proofs.OddRings.{is_name-true}
use Rattle.point_queries.proofs.near.cancel.Goals as goal

pub returns-in-Some-clause-odds : goal.returns-in-Some-clause-odds
returns-in-Some-clause-odds g c = λ x.
    let same : c.in-Some.last ≡ c.args.name = is_name-true c.in-Some.last c.args.name (sym c.eq.ensures ∙ c.if-eq.true) in
    odd-popped (is_name x) c.pop.new.self.items c.args.names.now.items c.args.name
    (c.in-Some.ensures.items ∙ ap (λ (z : RingName). c.pop.new.self.items ++ z ∷ []) same)

pub returns-in_ok-push-in-Some-2-2-clause-odds : goal.returns-in_ok-push-in-Some-2-2-clause-odds
returns-in_ok-push-in-Some-2-2-clause-odds g c = λ x.
    let back = c.in_ok-push-in-Some-2.ensures.items ∙ sym c.in-Some.ensures.items in
    ap (odd (is_name x)) (c.in_ok-push-in-Some-2-2.ensures.items ∙ ap (λ z. z ++ c.args.name ∷ []) back)
    ∙ odd-pushed (is_name x) c.args.names.now.items c.args.name

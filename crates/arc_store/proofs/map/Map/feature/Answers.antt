use Rattle.kit_words.proofs.Common.{◌≡◌, ◌≤◌, true, sym, ap, ◌∙◌, subst, map, option_map}
use Rattle.ring_machine.specs.Common.{feature, features, size, are_distinct}
use Rattle.ring_machine.proofs.Common.{formed-in_rings}
use Rattle.map_frame.specs.Common.{shown}
use Rattle.feature_exchange.specs.Common.{stored, ring_under}
use Rattle.arc_store.proofs.FrameReads.{feature_shown}
use Rattle.arc_store.proofs.map.Map.feature.Goals as goal

pub returns-clause-shown : goal.returns-clause-shown
returns-clause-shown g c =
    let m = c.self.inside in
    let n = c.args.n in
    c.feature.ensures
    ∙ sym (feature_shown (ring_under (stored m.frame m.rings.borders m.rings.vertices)) m.frame.doc n)
    ∙ ap (λ s. option_map shown (feature s.doc n)) c.self.view_is

pub returns-clause-small : goal.returns-clause-small
returns-clause-small g c = subst (λ s. size s.doc ≤ 4000000) c.self.view_is c.self.invariant.holds.small

pub returns-clause-distinct : goal.returns-clause-distinct
returns-clause-distinct g c =
    let m = c.self.inside in
    let s = stored m.frame m.rings.borders m.rings.vertices in
    subst (λ z. are_distinct (map (λ f. f.number) (features z.doc)) ≡ true) c.self.view_is
    (formed-in_rings (ring_under s) s.frame c.self.invariant.holds.formed).numbers

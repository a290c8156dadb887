use Rattle.kit_words.proofs.Common.{◌≤◌, ap, sym, subst, ◌∙◌, option_map}
use Rattle.ring_machine.specs.Common.{feature, in_feature}
use Rattle.ring_machine.proofs.Common.{feature-in_rings}
use Rattle.feature_exchange.specs.Common.{stored, ring_under}
use Rattle.arc_store.proofs.PlacedMap.{held_seen, placed_seen, keeps_seen}
use Rattle.arc_store.proofs.map.Map.next_number.Goals as goal

pub returns-clause-below : goal.returns-clause-below
returns-clause-below g c = λ k h.
    let m = c.self.inside in
    let of = ring_under (stored m.frame m.rings.borders m.rings.vertices) in
    sym (ap (λ s. feature s.doc k) c.self.view_is)
    ∙ feature-in_rings of m.frame.doc k
    ∙ ap (option_map (in_feature of)) (c.next.ensures.below k (subst (λ n. n ≤ k) (sym (ap (λ s. s.next) c.self.view_is)) h))

pub returns-clause-held : goal.returns-clause-held
returns-clause-held g c = held_seen c.self.invariant c.self.view_is c.next.ensures.placed

pub returns-clause-placed : goal.returns-clause-placed
returns-clause-placed g c = placed_seen c.self.invariant c.self.view_is c.next.ensures.placed

pub returns-clause-keeps : goal.returns-clause-keeps
returns-clause-keeps g c = keeps_seen c.self.invariant c.self.view_is

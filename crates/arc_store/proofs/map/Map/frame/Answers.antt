use Rattle.kit_words.proofs.Common.{◌≤◌, ◌∙◌, sym, ap, subst, AllByRecursion}
use Rattle.grid_geometry.specs.Common.{InRange}
use Rattle.ring_machine.specs.Common.{rings, size, Proper, WellFormed}
use Rattle.ring_machine.proofs.Common.{formed-in_rings}
use Rattle.topo_outline.specs.Common.{KeepsTexts}
use Rattle.topo_outline.proofs.Common.{keeps-in_rings}
use Rattle.map_frame.specs.Common.{shown_frame}
use Rattle.feature_exchange.specs.Common.{stored, ring_under}
use Rattle.arc_store.proofs.FrameReads.{frame_shown}
use Rattle.arc_store.proofs.Ranged.{rings_in_range}
use Rattle.arc_store.proofs.map.Map.frame.Goals as goal

pub returns-clause-shown : goal.returns-clause-shown
returns-clause-shown g c =
    let m = c.self.inside in
    c.view.ensures.shown
    ∙ sym (frame_shown (ring_under (stored m.frame m.rings.borders m.rings.vertices)) m.frame.doc)
    ∙ ap (λ s. shown_frame s.doc) c.self.view_is

pub returns-clause-formed : goal.returns-clause-formed
returns-clause-formed g c =
    let m = c.self.inside in
    subst WellFormed (ap (λ s. s.doc) c.self.view_is)
    (formed-in_rings (ring_under (stored m.frame m.rings.borders m.rings.vertices)) m.frame.doc c.self.invariant.holds.formed)

pub returns-clause-keeps : goal.returns-clause-keeps
returns-clause-keeps g c =
    let m = c.self.inside in
    subst KeepsTexts (ap (λ s. s.doc) c.self.view_is)
    (keeps-in_rings (ring_under (stored m.frame m.rings.borders m.rings.vertices)) m.frame.doc c.self.invariant.holds.keeps)

pub returns-clause-proper : goal.returns-clause-proper
returns-clause-proper g c = subst Proper (ap (λ s. s.doc) c.self.view_is) c.self.invariant.holds.proper

pub returns-clause-range : goal.returns-clause-range
returns-clause-range g c =
    let m = c.self.inside in
    subst (λ d. AllByRecursion (AllByRecursion InRange) (rings d)) (ap (λ s. s.doc) c.self.view_is)
    (rings_in_range (stored m.frame m.rings.borders m.rings.vertices) c.len.ensures.range)

pub returns-clause-small : goal.returns-clause-small
returns-clause-small g c = subst (λ d. size d ≤ 4000000) (ap (λ s. s.doc) c.self.view_is) c.self.invariant.holds.small

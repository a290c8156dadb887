use Rattle.kit_words.proofs.Common.{◌∙◌, ◌++◌, ap, sym, subst}
use Rattle.ring_machine.specs.Common.{vertices}
use Rattle.ring_machine.proofs.Common.{sorted_once}
use Rattle.vertex_index.specs.Common.{ArePlaces}
use Rattle.feature_exchange.specs.Common.{stored}
use Rattle.arc_store.proofs.VertexCounts.{vertices_listed}
use Rattle.arc_store.proofs.map.Map.vertices.Goals as goal

pub returns : goal.returns
returns g c =
    let m = c.self.inside in
    vertices_listed (stored m.frame m.rings.borders m.rings.vertices) c.self.invariant.holds.whole c.extend_from_slice.new.self.items _
    (subst (ArePlaces m.rings.vertices) (sym (c.in_ok-extend_from_slice.ensures.items ∙ ap (λ z. z ++ c.positions.result.now) c.new-found.ensures.items)) c.positions.ensures)
    (sorted_once _ _ _ c.sort_unstable.ensures.permutation c.sort_unstable.ensures.sorted c.dedup.ensures.filtered)
    ∙ ap (λ s. vertices s.doc) c.self.view_is

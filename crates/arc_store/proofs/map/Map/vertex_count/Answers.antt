use Rattle.kit_words.proofs.Common.{ap, ◌∙◌, length}
use Rattle.ring_machine.specs.Common.{vertices}
use Rattle.feature_exchange.specs.Common.{stored}
use Rattle.arc_store.proofs.VertexCounts.{vertices_counted}
use Rattle.arc_store.proofs.map.Map.vertex_count.Goals as goal

pub returns : goal.returns
returns g c =
    let m = c.self.inside in
    c.len.ensures.len
    ∙ vertices_counted (stored m.frame m.rings.borders m.rings.vertices) c.self.invariant.holds.whole
    ∙ ap (λ s. length (vertices s.doc)) c.self.view_is

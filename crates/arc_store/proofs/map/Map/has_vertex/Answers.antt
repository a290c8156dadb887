use Rattle.kit_words.proofs.Common.{ap, ◌∙◌}
use Rattle.ring_machine.specs.Common.{is_vertex}
use Rattle.feature_exchange.specs.Common.{stored}
use Rattle.arc_store.proofs.Reading.{found_vertex}
use Rattle.arc_store.proofs.map.Map.has_vertex.Goals as goal

pub returns : goal.returns
returns g c =
    let m = c.self.inside in
    c.is_some.ensures
    ∙ found_vertex (stored m.frame m.rings.borders m.rings.vertices) c.self.invariant.holds.whole c.args.p c.key_of.result c.key_of.ensures.found c.key_of.ensures.absent
    ∙ ap (λ s. is_vertex s.doc c.args.p) c.self.view_is

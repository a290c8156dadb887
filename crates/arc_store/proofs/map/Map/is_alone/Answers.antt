use Rattle.kit_words.proofs.Common.{sym, ap, ◌∙◌}
use Rattle.ring_machine.specs.Common.{is_layer}
use Rattle.ring_machine.proofs.Common.{is_layer-in_rings}
use Rattle.feature_exchange.specs.Common.{stored, ring_under}
use Rattle.arc_store.proofs.map.Map.is_alone.Goals as goal

pub returns : goal.returns
returns g c =
    let m = c.self.inside in
    c.is_alone.ensures
    ∙ sym (is_layer-in_rings (ring_under (stored m.frame m.rings.borders m.rings.vertices)) m.frame.doc c.args.n)
    ∙ ap (λ s. is_layer s.doc c.args.n) c.self.view_is

use Rattle.kit_words.proofs.Common.{sym, ap, ◌∙◌}
use Rattle.ring_machine.specs.Common.{has_feature}
use Rattle.feature_exchange.specs.Common.{stored, ring_under}
use Rattle.arc_store.proofs.FrameReads.{has_feature-in_rings}
use Rattle.arc_store.proofs.map.Map.has_feature.Goals as goal

pub returns : goal.returns
returns g c =
    let m = c.self.inside in
    c.has_feature.ensures
    ∙ sym (has_feature-in_rings (ring_under (stored m.frame m.rings.borders m.rings.vertices)) m.frame.doc c.args.n)
    ∙ ap (λ s. has_feature s.doc c.args.n) c.self.view_is

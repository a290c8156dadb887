use Rattle.kit_words.proofs.Common.{sym, ap, ◌∙◌, length}
use Rattle.ring_machine.specs.Common.{features}
use Rattle.feature_exchange.specs.Common.{stored, ring_under}
use Rattle.arc_store.proofs.FrameReads.{feature_count-in_rings}
use Rattle.arc_store.proofs.map.Map.feature_count.Goals as goal

pub returns : goal.returns
returns g c =
    let m = c.self.inside in
    c.feature_count.ensures
    ∙ sym (feature_count-in_rings (ring_under (stored m.frame m.rings.borders m.rings.vertices)) m.frame.doc)
    ∙ ap (λ s. length (features s.doc)) c.self.view_is

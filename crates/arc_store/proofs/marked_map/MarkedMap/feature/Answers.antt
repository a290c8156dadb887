use Rattle.kit_words.proofs.Common.{sym, ap, ◌∙◌, option_map}
use Rattle.ring_machine.specs.Common.{feature}
use Rattle.map_frame.specs.Common.{shown}
use Rattle.feature_exchange.specs.Common.{stored_in, ring_under}
use Rattle.arc_store.proofs.FrameReads.{feature_shown}
use Rattle.arc_store.proofs.marked_map.MarkedMap.feature.Goals as goal

pub returns : goal.returns
returns g c =
    let frame = c.self.inside.frame.now in
    c.feature.ensures
    ∙ sym (feature_shown (ring_under (stored_in frame c.self.inside.rings.now)) frame.doc c.args.n)
    ∙ ap (λ d. option_map shown (feature d c.args.n)) c.self.view_is

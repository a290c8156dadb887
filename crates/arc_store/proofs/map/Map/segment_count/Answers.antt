use Rattle.kit_words.proofs.Common.{sym, ap, ◌∙◌, length}
use Rattle.ring_machine.specs.Common.{distinct_segments}
use Rattle.feature_exchange.specs.Common.{stored, stored_document}
use Rattle.arc_store.proofs.SegmentCounts.{indexed_len}
use Rattle.arc_store.proofs.map.Map.segment_count.Goals as goal

pub returns : goal.returns
returns g c =
    let m = c.self.inside in
    c.len.ensures
    ∙ sym (indexed_len (stored_document (stored m.frame m.rings.borders m.rings.vertices)) m.rings.index.held c.self.invariant.holds.indexed)
    ∙ ap (λ s. length (distinct_segments s.doc)) c.self.view_is

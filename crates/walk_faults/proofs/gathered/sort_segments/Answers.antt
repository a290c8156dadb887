use Rattle.kit_words.proofs.Common.{◌∙◌}
use Rattle.grid_geometry.specs.Common.{segment_cmp, segment_eq}
use Rattle.ring_machine.proofs.Common.{segment_eq-true, segment_eq-sym}
use Rattle.segment_index.proofs.Common.{segment_total, segment_eq-is}
use Rattle.walk_faults.proofs.Ascending.{sorted_once}
use Rattle.walk_faults.proofs.gathered.sort_segments.Goals as goal

pub returns : goal.returns
returns g c =
    sorted_once segment_cmp segment_total segment_eq segment_eq-true (λ s t. segment_eq-sym s t ∙ segment_eq-is s t) _ _ _
    c.sort_unstable.ensures.permutation c.sort_unstable.ensures.sorted c.dedup.ensures.filtered

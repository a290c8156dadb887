use Rattle.kit_words.proofs.Common.{◌∙◌}
use Rattle.ring_parts.proofs.Ways.{edge_turned}
use Rattle.ring_parts.proofs.same_sides.has_edge.Goals as goal

pub has_sorted-requires : goal.has_sorted-requires
has_sorted-requires c = c.requires

pub returns : goal.returns
returns c = c.has_sorted.ensures ∙ edge_turned c.args.sorted.now c.args.edge

use Rattle.kit_words.proofs.Common.{◌≡◌, map}
use Rattle.json_spans.specs.Common.{node, items, items_left}
use Rattle.topo_outline.proofs.Common.{with_front}
use Rattle.grid_reader.specs.Common.{fine_origin, fine_positions, fine_seen}
use Rattle.grid_reader.proofs.fine.fine_positions.Given as goal

abbrev pub invariant-loop-part : goal.invariant-loop-part
invariant-loop-part g l = with_front (map fine_seen l.found.items) (fine_positions l.wants l.delta (fine_seen l.before) (items_left l.part-iterator)) ≡ fine_positions l.wants l.delta fine_origin (items (node l.fn.span))

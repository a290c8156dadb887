use Rattle.kit_words.proofs.Common.{◌≡◌}
use Rattle.json_spans.specs.Common.{node, items, items_left}
use Rattle.topo_reader.specs.Common.{origin, positions}
use Rattle.topo_outline.proofs.Common.{with_front}
use Rattle.topo_reader.proofs.arcs.positions.Given as goal

abbrev pub invariant-loop-part : goal.invariant-loop-part
invariant-loop-part g l = with_front l.found.items (positions l.delta l.before (items_left l.part-iterator)) ≡ positions l.delta origin (items (node l.fn.span))

use Rattle.kit_words.proofs.Common.{◌≡◌, map}
use Rattle.json_spans.specs.Common.{node, items, items_left}
use Rattle.topo_outline.specs.Common.{each}
use Rattle.topo_reader.specs.Common.{index, arc_of, positions_of}
use Rattle.topo_outline.proofs.Common.{with_front}
use Rattle.topo_reader.proofs.indexes.ring.Given as goal

abbrev pub invariant-loop-part : goal.invariant-loop-part
invariant-loop-part g l = with_front (map arc_of l.found.items) (each (index (map positions_of l.arcs)) (items_left l.part-iterator)) ≡ each (index (map positions_of l.arcs)) (items (node l.fn.span))

use Rattle.kit_words.proofs.Common.{◌≡◌, map}
use Rattle.json_spans.specs.Common.{node, items_left}
use Rattle.topo_outline.specs.Common.{each}
use Rattle.topo_outline.proofs.Common.{with_front}
use Rattle.grid_reader.specs.Common.{fine_arc, fine_arcs, arc_seen}
use Rattle.grid_reader.proofs.fine.fine_arcs.Given as goal

abbrev pub invariant-loop-part : goal.invariant-loop-part
invariant-loop-part g l = with_front (map arc_seen l.found.items) (each (fine_arc l.wants l.delta) (items_left l.part-iterator)) ≡ fine_arcs l.wants l.delta (node l.fn.span)

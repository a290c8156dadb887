use Rattle.kit_words.proofs.Common.{◌≡◌, map}
use Rattle.json_spans.specs.Common.{node, items_left}
use Rattle.topo_outline.specs.Common.{each}
use Rattle.topo_reader.specs.Common.{arc, arcs, positions_of}
use Rattle.topo_outline.proofs.Common.{with_front}
use Rattle.topo_reader.proofs.arcs.arcs.Given as goal

abbrev pub invariant-loop-part : goal.invariant-loop-part
invariant-loop-part g l = with_front (map positions_of l.found.items) (each (arc l.delta) (items_left l.part-iterator)) ≡ arcs l.delta (node l.fn.span)

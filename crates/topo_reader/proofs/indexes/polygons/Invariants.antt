use Rattle.kit_words.proofs.Common.{◌≡◌, map}
use Rattle.json_spans.specs.Common.{node, items, items_left}
use Rattle.topo_outline.specs.Common.{each}
use Rattle.topo_reader.specs.Common.{polygon, polygon_uses, positions_of}
use Rattle.topo_outline.proofs.Common.{with_front}
use Rattle.topo_reader.proofs.indexes.polygons.Given as goal

abbrev pub invariant-loop-part : goal.invariant-loop-part
invariant-loop-part g l = with_front (map polygon_uses l.found.items) (each (polygon (map positions_of l.arcs)) (items_left l.part-iterator)) ≡ each (polygon (map positions_of l.arcs)) (items (node l.fn.span))

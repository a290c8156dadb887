use Rattle.kit_words.proofs.Common.{◌≡◌, ◌-◌, map}
use Rattle.json_spans.specs.Common.{node, items, items_left}
use Rattle.topo_outline.specs.Common.{each_joined, view_item, view_entry}
use Rattle.topo_outline.proofs.Walking.{with_front}
use Rattle.topo_outline.proofs.Depth.{inside}
use Rattle.topo_outline.proofs.geometries.+geometry.Given as goal

abbrev pub decreases-geometry : goal.decreases-geometry
decreases-geometry g l = l.depth

abbrev pub invariant-loop-part : goal.invariant-loop-part
invariant-loop-part g l = with_front (map view_item l.out.items) (each_joined (inside (view_entry l.list) (l.depth - 1)) (items_left l.part-iterator)) ≡ with_front (map view_item l.initial.out.items) (each_joined (inside (view_entry l.list) (l.depth - 1)) (items (node l.list.value)))

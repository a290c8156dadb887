use Rattle.kit_words.proofs.Common.{◌≡◌, ◌-◌, map, true}
use Rattle.json_spans.specs.Common.{node, items, items_left}
use Rattle.topo_outline.proofs.Walking.{with_front}
use Rattle.geo_topology.specs.Pieces.{separated}
use Rattle.geo_topology.specs.Views.{view_named, view_chunk}
use Rattle.geo_topology.proofs.Depth.{within}
use Rattle.geo_topology.proofs.geometries.+geometry.Given as goal

abbrev pub decreases-geometry : goal.decreases-geometry
decreases-geometry g l = l.depth

abbrev pub invariant-loop-part : goal.invariant-loop-part
invariant-loop-part g l = with_front (map view_chunk l.out.items) (separated (within (view_named l.member) (l.depth - 1)) l.is_first (items_left l.part-iterator)) ≡ with_front (map view_chunk l.initial.out.items) (separated (within (view_named l.member) (l.depth - 1)) true (items (node l.member.value)))

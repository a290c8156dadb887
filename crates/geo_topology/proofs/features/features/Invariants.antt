use Rattle.kit_words.proofs.Common.{◌≡◌, map, true}
use Rattle.json_spans.specs.Common.{node, items, items_left}
use Rattle.topo_outline.proofs.Walking.{with_front}
use Rattle.geo_topology.specs.Pieces.{separated}
use Rattle.geo_topology.specs.Features.{feature_in_list}
use Rattle.geo_topology.specs.Views.{view_named, view_chunk}
use Rattle.geo_topology.proofs.features.features.Given as goal

abbrev pub invariant-loop-part : goal.invariant-loop-part
invariant-loop-part g l = with_front (map view_chunk l.out.items) (separated (feature_in_list (view_named l.list)) l.is_first (items_left l.part-iterator)) ≡ with_front (map view_chunk l.initial.out.items) (separated (feature_in_list (view_named l.fn.list)) true (items (node l.fn.list.value)))

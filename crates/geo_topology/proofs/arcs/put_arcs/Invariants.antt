use Rattle.kit_words.proofs.Common.{◌≡◌, map, drop, true}
use Rattle.json_spans.specs.Common.{node}
use Rattle.geo_topology.specs.Text.{ring_segments}
use Rattle.geo_topology.specs.Copies.{extended}
use Rattle.geo_topology.specs.Views.{view_made}
use Rattle.geo_topology.proofs.arcs.put_arcs.Given as goal

abbrev pub invariant-loop-ring : goal.invariant-loop-ring
invariant-loop-ring g l = extended (view_made l.made) (ring_segments l.is_first (map node (drop l.ring-index l.rings))) ≡ extended (view_made l.initial.made) (ring_segments true (map node l.fn.rings))

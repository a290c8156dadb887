use Rattle.kit_words.proofs.Common.{◌≡◌, ◌++◌, length, map, drop}
use Rattle.std.specs.List.{flat_map}
use Rattle.json_spans.specs.Common.{node}
use Rattle.geo_topology.specs.Text.{segments_from, rings_of_piece}
use Rattle.geo_topology.specs.Copies.{extended}
use Rattle.geo_topology.specs.Views.{view_chunk, view_made}
use Rattle.geo_topology.proofs.step.put_chunks.Given as goal

abbrev pub invariant-loop-chunk : goal.invariant-loop-chunk
invariant-loop-chunk g l =
    (extended (view_made l.made) (segments_from (length l.rings.items) (map view_chunk (drop l.chunk-index l.chunks))) ≡ extended (view_made l.initial.made) (segments_from (length l.initial.rings.items) (map view_chunk l.fn.chunks)))
    × (map node l.rings.items ++ flat_map rings_of_piece (map view_chunk (drop l.chunk-index l.chunks)) ≡ map node l.initial.rings.items ++ flat_map rings_of_piece (map view_chunk l.fn.chunks))

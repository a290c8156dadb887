use Rattle.kit_words.proofs.Common.{◌≡◌, map, drop, ◌++◌, false}
use Rattle.geo_topology.specs.Pieces.{inside}
use Rattle.geo_topology.specs.Views.{view_named, view_chunk}
use Rattle.geo_topology.proofs.putting.put_inside.Given as goal

abbrev pub invariant-loop-entry : goal.invariant-loop-entry
invariant-loop-entry g l = map view_chunk l.out.items ++ inside l.is_open (map view_named (drop l.entry-index l.entries)) ≡ map view_chunk l.initial.out.items ++ inside false (map view_named l.fn.entries)

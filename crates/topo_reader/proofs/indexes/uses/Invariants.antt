use Rattle.kit_words.proofs.Common.{◌≡◌, map, drop}
use Rattle.topo_outline.specs.Common.{each, view_place}
use Rattle.topo_reader.specs.Common.{uses_of, feature_uses, positions_of}
use Rattle.topo_outline.proofs.Common.{with_front}
use Rattle.topo_reader.proofs.indexes.uses.Given as goal

abbrev pub invariant-loop-place : goal.invariant-loop-place
invariant-loop-place g l = with_front (map feature_uses l.found.items) (each (uses_of (map positions_of l.arcs)) (map view_place (drop l.place-index l.places))) ≡ each (uses_of (map positions_of l.fn.arcs)) (map view_place l.fn.places)

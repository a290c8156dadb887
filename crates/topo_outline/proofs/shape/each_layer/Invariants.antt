use Rattle.kit_words.proofs.Common.{◌≡◌, length, map, take, drop}
use Rattle.indexmap.specs.IndexMap.{index_map_len, values}
use Rattle.topo_outline.specs.Common.{each, view_entry, view_layer}
use Rattle.topo_outline.specs.Shape.{layer}
use Rattle.topo_outline.proofs.Walking.{with_front}
use Rattle.topo_outline.proofs.shape.each_layer.Given as goal

-- the layers before the place were read, and there is a place for each name
abbrev pub invariant-loop-i : goal.invariant-loop-i
invariant-loop-i g l = (with_front (map view_layer (take l.i (values l.found))) (each layer (map view_entry (drop l.i l.names))) ≡ each layer (map view_entry l.fn.names)) × (index_map_len l.found ≡ length l.names)

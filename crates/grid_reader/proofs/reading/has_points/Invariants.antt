use Rattle.kit_words.proofs.Common.{◌≡◌, drop, map, list_any}
use Rattle.topo_outline.specs.Common.{view_layer}
use Rattle.grid_reader.specs.Common.{has_text_in}
use Rattle.grid_reader.proofs.reading.has_points.Given as goal

abbrev pub invariant-loop-layer : goal.invariant-loop-layer
invariant-loop-layer g l = list_any has_text_in (map view_layer (drop l.layer-index l.layers)) ≡ list_any has_text_in (map view_layer l.fn.layers)

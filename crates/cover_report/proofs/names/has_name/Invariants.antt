use Rattle.kit_words.proofs.Common.{◌≡◌, drop, map}
use Rattle.topo_outline.specs.Common.{view_layer}
use Rattle.cover_report.specs.Names.{has_name}
use Rattle.cover_report.proofs.names.has_name.Given as goal

abbrev pub invariant-loop-layer : goal.invariant-loop-layer
invariant-loop-layer g l = has_name (map view_layer (drop l.layer-index l.layers)) l.fn.name ≡ has_name (map view_layer l.fn.layers) l.fn.name

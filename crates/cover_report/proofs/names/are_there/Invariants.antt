use Rattle.kit_words.proofs.Common.{◌≡◌, drop, map}
use Rattle.topo_outline.specs.Common.{view_layer}
use Rattle.cover_report.specs.Names.{are_there}
use Rattle.cover_report.proofs.names.are_there.Given as goal

abbrev pub invariant-loop-name : goal.invariant-loop-name
invariant-loop-name g l = are_there (map (λ name. name.now) (drop l.name-index l.names)) (map view_layer l.fn.layers) ≡ are_there (map (λ name. name.now) l.fn.names) (map view_layer l.fn.layers)

use Rattle.kit_words.proofs.Common.{◌≡◌, ◌++◌, length, map, take, drop}
use Rattle.topo_outline.specs.Common.{values, view_layer}
use Rattle.topo_reader.specs.Common.{feature_positions}
use Rattle.map_mending.specs.Common.{layers_after}
use Rattle.map_mending.proofs.forms.settle_layers.Given as goal

-- those before the place are settled, and those from it on will be by what is left
abbrev pub invariant-loop-i : goal.invariant-loop-i
invariant-loop-i g l = record {
  ahead : drop l.i (values l.layers) ≡ drop l.i (values l.fn.layers);
  settled : map view_layer (take l.i (values l.layers)) ++ layers_after (map feature_positions l.rest) (map view_layer (drop l.i (values l.fn.layers)))
      ≡ layers_after (map feature_positions l.fn.features) (map view_layer (values l.fn.layers));
  long : length (values l.layers) ≡ length (values l.fn.layers);
}

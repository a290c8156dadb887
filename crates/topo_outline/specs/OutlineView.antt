-- The outline that the code answers, as the definitions see it.
use Rattle.std.specs.Prelude.{◌≡◌, map, option_map}
use Rattle.indexmap.specs.IndexMap.{values}
use Rattle.json_spans.specs.Common.{node}
use Rattle.topo_outline.specs.declared.shape.Outline.{Outline}
use Rattle.topo_outline.specs.Layers.{OutlineText, leaves}
use Rattle.topo_outline.specs.Views.{view_layer, view_kept, view_place}

abbrev pub view_outline : {A : Type 0} → Outline A → OutlineText
view_outline o = record {
  transform = option_map (λ t. t.now) o.transform;
  layers = map view_layer (values o.layers);
  arcs = node o.arcs;
  members = map view_kept o.members.items;
}

-- its places are those of its features, in the order of the text
abbrev pub IsPlaced : {A : Type 0} → Outline A → Type 0
IsPlaced o = map view_place o.places.items ≡ leaves (map view_layer (values o.layers))

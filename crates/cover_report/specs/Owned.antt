-- The polygons of a layer, as they are kept.
use Rattle.ring_machine.specs.Common.{Text}
use Rattle.ring_parts.specs.Common.{polygons_seen}
use Rattle.cover_report.specs.Layers.{LayerOf}
use Rattle.cover_report.specs.declared.layers.Owned.{Owned}

-- the layer with this name that has them
abbrev pub owned_layer : {A : Type 0} → Text → Owned A → LayerOf
owned_layer name owned = record {
  name = name;
  polygons = polygons_seen owned.polygons.items;
  owners = owned.owners.items;
  numbers = owned.numbers.items;
}

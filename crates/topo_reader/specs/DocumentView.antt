-- What was read, as the definitions see it.
use Rattle.std.specs.Prelude.{map, option_map}
use Rattle.topo_outline.specs.Common.{values, view_layer, view_kept}
use Rattle.topo_reader.specs.declared.document.RawDoc.{RawDoc}
use Rattle.topo_reader.specs.Document.{Opened}
use Rattle.topo_reader.specs.Uses.{feature_positions}

abbrev pub view_raw : {A : Type 0} → RawDoc A → Opened
view_raw raw = record {
  transform = option_map (λ t. t.now) raw.transform;
  layers = map view_layer (values raw.layers);
  members = map view_kept raw.members.items;
  polygons = map feature_positions raw.polygons.items;
}

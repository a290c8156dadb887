-- What was read on a grid, as the definitions see it.
use Rattle.std.specs.Prelude.{map}
use Rattle.topo_outline.specs.Common.{values, view_layer, view_kept}
use Rattle.topo_reader.specs.Common.{Opened, feature_positions}
use Rattle.grid_reader.specs.declared.reading.OnGrid.{OnGrid}
use Rattle.grid_reader.specs.TransformView.{view_transform}

abbrev pub view_on_grid : {A : Type 0} → OnGrid A → Opened
view_on_grid read = record {
  transform = view_transform read.transform;
  layers = map view_layer (values read.layers);
  members = map view_kept read.members.items;
  polygons = map feature_positions read.polygons.items;
}

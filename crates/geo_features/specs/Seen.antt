-- What the code writes with, as the definitions see it.
use Rattle.grid_decimals.specs.Common.{view_grid}
use Rattle.geo_features.specs.Style.{Style}
use Rattle.geo_features.specs.declared.style.Style.{Style as CodeStyle}

abbrev pub view_style : CodeStyle → Style
view_style s = record {
  grid = view_grid s.coordinates.grid;
  decimals = s.coordinates.decimals;
  keeps_winding = s.keeps_winding;
}

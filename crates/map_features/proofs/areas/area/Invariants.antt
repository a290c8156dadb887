use Rattle.kit_words.proofs.Common.{◌≡◌, take, map}
use Rattle.topo_reader.specs.Common.{polygon_positions}
use Rattle.map_features.specs.Areas.{polygons_area}
use Rattle.map_features.proofs.areas.area.Given as goal

-- the area of the polygons so far
abbrev pub invariant-loop-rings : goal.invariant-loop-rings
invariant-loop-rings g l = l.area ≡ polygons_area (map polygon_positions (take l.rings-index l.polygons))

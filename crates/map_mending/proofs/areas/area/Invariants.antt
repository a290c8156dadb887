use Rattle.kit_words.proofs.Common.{◌≡◌, ◌≤◌, ◌*◌, unsigned_abs, map, take, length}
use Rattle.std.proofs.Common.{sum_by}
use Rattle.topo_reader.specs.Common.{polygon_positions}
use Rattle.map_mending.specs.Common.{area_in}
use Rattle.map_mending.proofs.areas.area.Given as goal

-- the area so far, and how large it may be
abbrev pub invariant-loop-polygon : goal.invariant-loop-polygon
invariant-loop-polygon g l = record {
  whole : l.area ≡ area_in (map polygon_positions (take l.polygon-index l.polygons));
  bound : unsigned_abs l.area ≤ 2000000000000000000000000 * sum_by (sum_by length) (map polygon_positions (take l.polygon-index l.polygons));
}

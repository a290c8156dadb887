use Rattle.kit_words.proofs.Common.{map, take}
use Rattle.topo_reader.specs.Common.{polygon_positions}
use Rattle.segment_paths.specs.Common.{paths_seen}
use Rattle.map_mending.specs.Common.{StandsFor}
use Rattle.map_mending.proofs.polygons.mended_feature.Given as goal

-- the polygons so far stand in the place of those before the place
abbrev pub invariant-loop-polygon : goal.invariant-loop-polygon
invariant-loop-polygon g l =
    StandsFor (paths_seen l.paths) l.feature (map polygon_positions (take l.polygon l.polygons)) (map polygon_positions l.found.items) l.fn.parted.items l.parted.items

use Rattle.kit_words.proofs.Common.{◌≡◌, map, take}
use Rattle.topo_reader.specs.Common.{positions_of}
use Rattle.segment_paths.specs.Common.{paths_seen}
use Rattle.walk_mending.specs.Common.{laid}
use Rattle.map_mending.proofs.polygons.laid_walks.Given as goal

-- the walks so far are led along the paths
abbrev pub invariant-loop-walk : goal.invariant-loop-walk
invariant-loop-walk g l = map positions_of l.found.items ≡ map (laid (paths_seen l.paths)) (map positions_of (take l.walk-index l.walks))

use Rattle.kit_words.proofs.Common.{map, take}
use Rattle.topo_reader.specs.Common.{feature_positions}
use Rattle.segment_paths.specs.Common.{paths_seen}
use Rattle.map_mending.specs.Common.{TellsParted}
use Rattle.map_mending.proofs.polygons.mended_features.Given as goal

-- the features so far are mended
abbrev pub invariant-loop-feature : goal.invariant-loop-feature
invariant-loop-feature g l =
    TellsParted (paths_seen l.paths) (map feature_positions (take l.feature l.features)) (map feature_positions l.found.items) l.parted.items

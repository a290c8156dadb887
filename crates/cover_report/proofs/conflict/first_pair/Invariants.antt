use Rattle.kit_words.proofs.Common.{flat_map, map, take}
use Rattle.local_planarity.specs.Common.{IsFilled}
use Rattle.topo_reader.specs.Common.{feature_positions}
use Rattle.cover_report.specs.Filling.{feature_segments}
use Rattle.cover_report.proofs.conflict.first_pair.Given as goal

abbrev pub invariant-loop-polygons : goal.invariant-loop-polygons
invariant-loop-polygons g l =
    IsFilled l.filling.index l.filling.first (flat_map feature_segments (map feature_positions (take l.polygons-index l.polygons-items)))

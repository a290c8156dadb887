use Rattle.kit_words.proofs.Common.{◌≡◌, ◌++◌, drop, map}
use Rattle.segment_paths.specs.Common.{paths_seen}
use Rattle.topo_reader.specs.Common.{feature_positions}
use Rattle.map_mending.specs.Common.{changes_from}
use Rattle.map_mending.proofs.changes.area_changes.Given as goal

-- what is reported so far and of the features that are left is all
abbrev pub invariant-loop-feature : goal.invariant-loop-feature
invariant-loop-feature g l =
    l.changes.items ++ changes_from (paths_seen l.paths) l.feature (map feature_positions (drop l.feature l.before)) (map feature_positions (drop l.feature l.after))
    ≡ changes_from (paths_seen l.paths) 0 (map feature_positions l.before) (map feature_positions l.after)

use Rattle.kit_words.proofs.Common.{◌≡◌, map, drop}
use Rattle.topo_outline.specs.Common.{each_at}
use Rattle.topo_reader.specs.Common.{feature_of, feature_uses, feature_positions}
use Rattle.topo_outline.proofs.Common.{with_front}
use Rattle.topo_reader.proofs.rings.all_rings.Given as goal

abbrev pub invariant-loop-feature : goal.invariant-loop-feature
invariant-loop-feature g l = with_front (map feature_positions l.found.items) (each_at (feature_of l.closed) l.feature (map feature_uses (drop l.feature l.features))) ≡ each_at (feature_of l.fn.closed) 0 (map feature_uses l.fn.features)

use Rattle.kit_words.proofs.Common.{◌≡◌, take}
use Rattle.grid_geometry.specs.Common.{Segment}
use Rattle.walk_faults.specs.Common.{features_seen}
use Rattle.walk_mending.specs.Common.{is_among, is_bounding_in}
use Rattle.walk_mending.proofs.bounding.bounding_segments.Given as goal

-- those of the features so far
abbrev pub invariant-loop-feature : goal.invariant-loop-feature
invariant-loop-feature g l = (s : Segment) → is_among l.found.items s ≡ is_bounding_in (features_seen (take l.feature-index l.polygons)) s

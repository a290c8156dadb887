use Rattle.kit_words.proofs.Common.{◌≡◌, ◌++◌, ◌∷◌, [], drop, map, flat_map}
use Rattle.grid_geometry.specs.Common.{links}
use Rattle.segment_paths.specs.Common.{path_of_segment}
use Rattle.walk_mending.specs.Common.{edge_along}
use Rattle.walk_mending.proofs.laying.laid_walk.Given as goal

-- what is laid so far and what is left of the way are all
abbrev pub invariant-loop-to : goal.invariant-loop-to
invariant-loop-to g l =
    l.found.items ++ flat_map (edge_along (map path_of_segment l.paths)) (links (l.from ∷ drop l.to-index l.rest ++ l.first ∷ []))
    ≡ flat_map (edge_along (map path_of_segment l.paths)) (links (l.first ∷ l.rest ++ l.first ∷ []))

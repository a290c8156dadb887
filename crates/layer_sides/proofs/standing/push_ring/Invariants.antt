use Rattle.kit_words.proofs.Common.{◌≡◌, ◌++◌, ◌∷◌, [], drop, flat_map}
use Rattle.grid_geometry.specs.Common.{links}
use Rattle.layer_sides.specs.Standing.{stands_at}
use Rattle.layer_sides.proofs.standing.push_ring.Given as goal

-- the segments so far and those of the way that is left are all
abbrev pub invariant-loop-to : goal.invariant-loop-to
invariant-loop-to g l =
    l.found.items ++ flat_map (stands_at l.polygon) (links (l.from ∷ drop l.to-index l.rest ++ l.first ∷ []))
    ≡ l.fn.found.items ++ flat_map (stands_at l.polygon) (links (l.first ∷ l.rest ++ l.first ∷ []))

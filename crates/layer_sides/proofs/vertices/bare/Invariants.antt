use Rattle.kit_words.proofs.Common.{◌≡◌, [], map, take, All}
use Rattle.layer_sides.specs.Seen.{vertices_seen}
use Rattle.layer_sides.specs.Under.{turned}
use Rattle.layer_sides.proofs.vertices.bare.Given as goal

-- the vertices so far
abbrev pub invariant-loop-level : goal.invariant-loop-level
invariant-loop-level g l =
    (map (λ v. turned v.0) (vertices_seen l.found.items) ≡ take l.level-index l.levels)
    × All (λ v. v.1 ≡ []) (vertices_seen l.found.items)

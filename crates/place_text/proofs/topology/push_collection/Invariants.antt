use Rattle.kit_words.proofs.Common.{◌≡◌, ◌+◌, [], ◌∷◌, ◌++◌, take, codes}
use Rattle.map_text.specs.Common.{commas}
use Rattle.walk_faults.specs.Common.{flat_map_at}
use Rattle.place_text.specs.Common.{told_by}
use Rattle.place_text.proofs.topology.push_collection.Given as goal

-- what is listed so far
abbrev pub invariant-loop-number : goal.invariant-loop-number
invariant-loop-number g l =
    l.text.items ≡ (l.fn.text.items ++ codes "{\"type\":\"GeometryCollection\",\"geometries\":[")
    ++ commas (flat_map_at (λ n x. g.G.Geometry.geometry (told_by l.owners) n (l.others + n) x ∷ []) 0 (take l.number l.listed))

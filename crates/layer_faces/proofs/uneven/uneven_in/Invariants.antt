use Rattle.kit_words.proofs.Common.{◌≡◌, ◌++◌, drop}
use Rattle.ring_parts.specs.Seen.{polygons_seen}
use Rattle.layer_faces.specs.Weighed.{told_beside_all}
use Rattle.layer_faces.proofs.uneven.uneven_in.Given as goal

-- what is told so far, and what will be of the rest, is all
abbrev pub invariant-loop-polygon : goal.invariant-loop-polygon
invariant-loop-polygon g l =
    l.found.items ++ told_beside_all l.polygon (polygons_seen (drop l.polygon l.polygons)) (drop l.polygon l.areas) ≡ told_beside_all 0 (polygons_seen l.polygons) l.areas

use Rattle.kit_words.proofs.Common.{◌≡◌, map, take}
use Rattle.layer_faces.specs.Common.{segments_seen, side_at, side_ends}
use Rattle.cover_report.proofs.faces.ends_of.Given as goal

-- the ends so far
abbrev pub invariant-loop-side : goal.invariant-loop-side
invariant-loop-side g l =
    l.ends.items ≡ map side_ends (map (side_at (segments_seen l.fn.borders)) (take l.side-index l.sides))

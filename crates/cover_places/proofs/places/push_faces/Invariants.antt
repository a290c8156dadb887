use Rattle.kit_words.proofs.Common.{◌≡◌, ◌++◌, map, take}
use Rattle.cover_report.specs.Common.{view_told}
use Rattle.cover_places.specs.Places.{numbered, place_seen}
use Rattle.cover_places.proofs.places.push_faces.Given as goal

-- the faces so far
abbrev pub invariant-loop-number : goal.invariant-loop-number
invariant-loop-number g l =
    map place_seen l.places.items ≡ map place_seen l.fn.places.items ++ numbered (map (λ f. view_told f.now) (take l.number l.faces))

use Rattle.kit_words.proofs.Common.{◌≡◌, ◌++◌, map, take}
use Rattle.cover_report.specs.Faces.{view_told}
use Rattle.cover_report.proofs.told.push_faces.Given as goal

abbrev pub invariant-loop-face : goal.invariant-loop-face
invariant-loop-face g l =
    map (λ f. view_told f.now) l.found.items ≡ map (λ f. view_told f.now) l.fn.found.items ++ map view_told (take l.face-index l.faces)

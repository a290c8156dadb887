use Rattle.kit_words.proofs.Common.{◌≡◌, map, take}
use Rattle.cover_report.specs.Asked.{view_asked}
use Rattle.cover_report.specs.Counted.{told}
use Rattle.cover_report.specs.Faces.{view_told}
use Rattle.cover_report.proofs.told.told_faces.Given as goal

abbrev pub invariant-loop-face : goal.invariant-loop-face
invariant-loop-face g l =
    map (λ f. view_told f.now) l.found.items ≡ told (view_asked l.fn.asked) l.fn.kind (map (λ f. view_told f.now) (take l.face-index l.faces))

use Rattle.kit_words.proofs.Common.{◌≡◌, ◌++◌, into_iter_items, map}
use Rattle.layer_faces.specs.Common.{faces_seen, segments_seen}
use Rattle.cover_report.specs.Faces.{all_told, view_told}
use Rattle.cover_report.proofs.faces.told_of_all.Given as goal

-- with what is told of the faces that are left it is all
abbrev pub invariant-loop-face : goal.invariant-loop-face
invariant-loop-face g l =
    map view_told l.found.items ++ all_told (faces_seen (segments_seen l.fn.borders) (into_iter_items l.face-iterator))
    ≡ all_told (faces_seen (segments_seen l.fn.borders) (into_iter_items l.initial.face-iterator))

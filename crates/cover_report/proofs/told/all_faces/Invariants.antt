use Rattle.kit_words.proofs.Common.{◌≡◌, map, take}
use Rattle.cover_report.specs.Counted.{faces_of}
use Rattle.cover_report.specs.Faces.{view_told}
use Rattle.cover_report.specs.Layers.{view_looked}
use Rattle.cover_report.proofs.told.all_faces.Given as goal

abbrev pub invariant-loop-looked : goal.invariant-loop-looked
invariant-loop-looked g l = map (λ f. view_told f.now) l.found.items ≡ faces_of (map view_looked (take l.looked-index l.looks))

use Rattle.kit_words.proofs.Common.{◌≡◌, take}
use Rattle.layer_sides.specs.Seen.{borders_seen}
use Rattle.layer_faces.specs.Holders.{features_of}
use Rattle.layer_faces.specs.Kept.{beside_numbers}
use Rattle.layer_faces.proofs.features.beside.Given as goal

-- the features beside the sides so far
abbrev pub invariant-loop-side : goal.invariant-loop-side
invariant-loop-side g l = l.features.items ≡ features_of l.owners (beside_numbers (borders_seen l.borders) (take l.side-index l.sides))

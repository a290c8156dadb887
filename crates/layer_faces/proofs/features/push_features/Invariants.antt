use Rattle.kit_words.proofs.Common.{◌≡◌, ◌++◌, take}
use Rattle.layer_faces.specs.Holders.{features_of}
use Rattle.layer_faces.proofs.features.push_features.Given as goal

-- the features of the polygons so far are appended
abbrev pub invariant-loop-n : goal.invariant-loop-n
invariant-loop-n g l = l.features.items ≡ l.fn.features.items ++ features_of l.owners (take l.n-index l.numbers)

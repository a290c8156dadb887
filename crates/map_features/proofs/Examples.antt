-- Squares, and the features of a map, worked out.
use Rattle.kit_words.proofs.Common.{◌≡◌, ℕ, refl, pos, [], ◌∷◌, List, Option, Some, None, codes}
use Rattle.ring_machine.specs.Common.{Head}
use Rattle.map_features.specs.Shapes.{descriptions_from}
use Rattle.map_features.specs.Windows.{half_of}

-- an odd width reaches further to the right
odd : half_of (pos 9) ≡ pos 4
odd = refl

abbrev head : Option (List ℕ) → Head
head id = record { id = id; properties = None; members = [] }

-- two features with their polygons; a third one has none and is left out
numbered : descriptions_from {P = ℕ} 0 (head (Some (codes "7")) ∷ head None ∷ head None ∷ []) (10 ∷ 20 ∷ [])
    ≡ ((0, Some (codes "7"), None, 10) ∷ (1, None, None, 20) ∷ [])
numbered = refl

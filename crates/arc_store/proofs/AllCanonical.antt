-- Rings begin at their least positions.
use Rattle.kit_words.proofs.Common.{◌≡◌, true, refl, ap₂, List, [], ◌∷◌, map, list_all, and_parts}
use Rattle.grid_geometry.specs.Common.{Position}
use Rattle.ring_machine.specs.Common.{canonical, is_ring}
use Rattle.ring_machine.proofs.Common.{ring_is_canonical}

pub all_canonical : (rings : List (List Position)) → list_all is_ring rings ≡ true
    → map canonical rings ≡ rings
all_canonical [] h = refl
all_canonical (r ∷ rs) h =
    let h' = and_parts (is_ring r) (list_all is_ring rs) h in
    ap₂ (λ y z. y ∷ z) (ring_is_canonical r h'.0) (all_canonical rs h'.1)

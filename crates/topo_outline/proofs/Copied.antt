-- A copy of a list, seen item by item.
use Rattle.kit_words.proofs.Common.{◌≡◌, refl, ap₂, List, [], ◌∷◌, map, AllZip}

module _ {X Y : Type 0} (Same : X → X → Type 0) (f : X → Y) (seen : (x c : X) → Same x c → f c ≡ f x) where
  pub copied_map : (xs copies : List X) → AllZip Same xs copies → map f copies ≡ map f xs
  copied_map [] [] h = refl
  copied_map [] (c ∷ cs) h = absurd h
  copied_map (x ∷ xs) [] h = absurd h
  copied_map (x ∷ xs) (c ∷ cs) h = ap₂ (λ y ys. y ∷ ys) (seen x c h.0) (copied_map xs cs h.1)

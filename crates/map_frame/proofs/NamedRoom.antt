-- Room for the rings of a feature.
use Rattle.kit_words.proofs.Common.{◌≡◌, ℕ, suc, ap, List, [], ◌∷◌, inl, inr, Some, slice_get, flat_map}
use Rattle.ring_machine.proofs.Common.{In, slice-in}
use Rattle.map_frame.specs.Common.{IsNumberOf}
use Rattle.map_frame.proofs.NamedOnce.{in_part}

pub of_in : {X : Type 0} (xs : List X) (r : X) → In r xs → (i : ℕ) × (slice_get xs i ≡ Some r)
of_in [] r i = absurd i
of_in (x ∷ xs) r (inl e) = (0, ap Some e)
of_in (x ∷ xs) r (inr i) = let j = of_in xs r i in (suc j.0, j.1)

-- a number of a part is one of all
pub of_part : {X : Type 0} (g : X → List ℕ) (xs : List X) (i : ℕ) (x : X) (r : ℕ) → slice_get xs i ≡ Some x
    → IsNumberOf (g x) r → IsNumberOf (flat_map g xs) r
of_part g xs i x r e q = of_in (flat_map g xs) r (in_part g xs i x r e (slice-in (g x) q.0 r q.1))

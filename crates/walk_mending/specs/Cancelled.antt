-- Ascending segments of which equal ones cancel in pairs.
use Rattle.std.specs.Prelude.{◌≡◌, List, [], ◌∷◌, ◌++◌}
use Rattle.grid_geometry.specs.Common.{Segment}

-- s is the last one of the list
abbrev pub EndsIn : List Segment → Segment → Type 0
EndsIn ss s = (front : List Segment) × (ss ≡ front ++ s ∷ [])

-- the last one of the old list was s and is taken out, or it was not and s comes after it
pub data IsCancelled (old : List Segment) (s : Segment) (new : List Segment) : Type 0 where
  taken : old ≡ new ++ s ∷ [] → IsCancelled old s new
  put : new ≡ old ++ s ∷ [] → (EndsIn old s → ⊥) → IsCancelled old s new

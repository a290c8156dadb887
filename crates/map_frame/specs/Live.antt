-- The features that were not taken out.
use Rattle.std.specs.Prelude.{ℕ, List, Option, None, Some, slice_get}

-- the value with this number, and none where it was taken out
abbrev pub live : {X : Type 0} → List (Option X) → ℕ → Option X
live {X} features n = there (slice_get features n)
  where
    there : Option (Option X) → Option X
    there (Some found) = found
    there None = None

-- How much room is left on the way over nested lists.
use Rattle.kit_words.proofs.Common.{◌≡◌, ℕ, ◌+◌, List, drop, map}
use Rattle.std.specs.Prelude.{sum_by}

-- the room that is left, and what is left of the sum
abbrev pub Counts : {X Y : Type 0} → (Y → ℕ) → (X → Y) → List X → ℕ → ℕ → ℕ → Type 0
Counts f v xs room left i = left + sum_by f (map v xs) ≡ room + sum_by f (map v (drop i xs))

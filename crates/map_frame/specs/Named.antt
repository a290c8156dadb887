-- Which ring of which polygon of which feature stands under a ring's number.
use Rattle.std.specs.Prelude.{ℕ, ◌≡◌, List, Option, Some, slice_get}
use Rattle.ring_machine.specs.Common.{DocumentOf}
use Rattle.map_frame.specs.declared.names.RingName.{RingName}
use Rattle.map_frame.specs.Readers.{frame_ring}

-- the number of the ring with this name
abbrev pub number_at : DocumentOf ℕ → RingName → Option ℕ
number_at d name = frame_ring d name.feature name.polygon name.ring

-- a name is kept for the ring with this number
abbrev pub IsNamed : List (Option RingName) → ℕ → RingName → Type 0
IsNamed names r name = slice_get names r ≡ Some (Some name)

-- each ring has a name, and it is its own
pub record AreNamed (names : List (Option RingName)) (d : DocumentOf ℕ) : Type 0 where
  pub each : (r : ℕ) (name : RingName) → number_at d name ≡ Some r
      → (o : RingName) × IsNamed names r o
  pub right : (r : ℕ) (name : RingName) → IsNamed names r name → number_at d name ≡ Some r

-- Where the positions of the slots stand in the index.
use Rattle.std.specs.Prelude.{◌≡◌, ℕ, List, Option, None, Some, slice_get, slice_index_or}
use Rattle.grid_geometry.specs.Common.{Position}
use Rattle.vertex_index.specs.declared.slot.Slot.{Slot}

-- what is in a slot
abbrev pub slot_at : List (Option Slot) → ℕ → Option Slot
slot_at slots k = slice_index_or slots k None

-- each slot names the place of its position and its number among the keys
abbrev pub AreInPlace : List (Option Slot) → List (Position × ℕ) → Type 0
AreInPlace slots keys = (k : ℕ) (s : Slot) → slot_at slots k ≡ Some s → slice_get keys s.place ≡ Some (s.pos, k)

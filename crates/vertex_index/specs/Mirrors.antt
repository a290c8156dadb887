-- How the slots and the keys of vertices belong together.
use Rattle.std.specs.Prelude.{◌≡◌, ℕ, List, Option, None, Some, map, slice_index_or}
use Rattle.std.specs.Option.{option_map}
use Rattle.std.specs.FinMap as table
use Rattle.std.specs.Map as pairs
use Rattle.slab.specs.Slab as slab
use Rattle.grid_geometry.specs.Common.{Position, InRange, position_eq}
use Rattle.vertex_index.specs.Placement.{Placement}
use Rattle.vertex_index.specs.declared.slot.Slot.{Slot}

-- the position in each slot
abbrev pub positions : List (Option Slot) → List (Option Position)
positions slots = map (option_map (λ (s : Slot). s.pos)) slots

-- the positions in the slots, each under the number of its slot
abbrev pub placement_of : List (Option Position) → Placement
placement_of slots = table.from_entries (slab.entries_from 0 slots)

-- the position in a slot
abbrev pub in_slot : List (Option Position) → ℕ → Option Position
in_slot slots k = slice_index_or slots k None

-- the key that stands for a position
abbrev pub key_in : List (Position × ℕ) → Position → Option ℕ
key_in keys p = pairs.lookup (position_eq p) keys

-- the key of a position in a slot is the slot's number, a key names the slot of its position, and
-- each position in a slot is in range
pub record Mirrors (slots : List (Option Position)) (keys : List (Position × ℕ)) : Type 0 where
  pub there : (k : ℕ) (p : Position) → in_slot slots k ≡ Some p → key_in keys p ≡ Some k
  pub back : (p : Position) (k : ℕ) → key_in keys p ≡ Some k → in_slot slots k ≡ Some p
  pub range : (k : ℕ) (p : Position) → in_slot slots k ≡ Some p → InRange p

-- A new number in a slot.
use Rattle.std.specs.Prelude.{ℕ, ◌==◌, if◌then◌else◌, List, [], ◌∷◌}
use Rattle.std.specs.List.{flat_map}
use Rattle.std.specs.Vec.{with_item}
use Rattle.map_frame.specs.declared.tables.Slot.{Slot}
use Rattle.map_frame.specs.declared.tables.Geometry.{Geometry}
use Rattle.map_frame.specs.declared.tables.Geometry.TheVariants as geometry

-- the number, and the new one after n
abbrev pub new_after : ℕ → ℕ → ℕ → List ℕ
new_after n new m = if m == n then n ∷ new ∷ [] else (m ∷ [])

-- the numbers, in which the new one stands directly after n
abbrev pub with_number : ℕ → ℕ → List ℕ → List ℕ
with_number n new ns = flat_map (new_after n new) ns

module _ {A : Type 0} where
  -- the geometry with this slot in the place of another
  abbrev pub with_slot : Geometry A → ℕ → Slot A → Geometry A
  with_slot (geometry.Alone n) at s = geometry.Alone n
  with_slot (geometry.Items slots) at s = geometry.Items (with_item slots at s)

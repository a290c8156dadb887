-- The words of this crate that others cite most, passed on from one place. Declares nothing.
pub use Rattle.vertex_index.specs.Mirrors.{Mirrors, in_slot, key_in, placement_of, positions}
pub use Rattle.vertex_index.specs.Placement.{AreDistinct, AreInRange, ArePlaces, IsOccupied, Placement, place}
pub use Rattle.vertex_index.specs.Places.{AreInPlace, slot_at}
pub use Rattle.vertex_index.specs.declared.slot.Slot.{Slot}

-- The words of this crate that others cite most, passed on from one place. Declares nothing.
pub use Rattle.arc_store.specs.Edits.{IsInsertable, IsLeavable, IsMovable, IsPlaceable, IsRemovable}
pub use Rattle.arc_store.specs.Exchanged.{MayExchange, asked_document, exchanged_state, part_of, feature_with}
pub use Rattle.arc_store.specs.Faults.{Names, Refuses}
pub use Rattle.arc_store.specs.Kept.{IsKept, state_of}
pub use Rattle.arc_store.specs.Named.{AreOnce, ListsNames, ListsRings, RingHas}
pub use Rattle.arc_store.specs.Near.{ListsNear}
pub use Rattle.arc_store.specs.Outcomes.{Edits, IsSameMap, edit_begun, split_map}
pub use Rattle.arc_store.specs.Recorded.{IsLeftOut, IsRecorded, IsThinning, left_out, record_seen, removal_seen}
pub use Rattle.arc_store.specs.Recorded.{thinning_record}
pub use Rattle.arc_store.specs.Splits.{IsCuttable, IsFirstCut, IsFound, IsTested, has_room}
pub use Rattle.arc_store.specs.Spots.{IsBetween, IsShortest, IsSpot, users}
pub use Rattle.arc_store.specs.State.{State}
pub use Rattle.arc_store.specs.Users.{HasOne, ListsRingNames}
pub use Rattle.arc_store.specs.declared.fault.EditFault.{EditFault}

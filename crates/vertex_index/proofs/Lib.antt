pub mod EntryLemmas
pub mod MirrorLemmas
pub mod PlaceLemmas
pub mod PlacementLemmas
pub mod PutLemmas
pub mod SlotLemmas
pub mod Common

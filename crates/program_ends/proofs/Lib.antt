pub mod WordLemmas
pub mod ClashLemmas
pub mod Common

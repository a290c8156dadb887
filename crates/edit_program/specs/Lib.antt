pub mod Asked
pub mod Keeping
pub mod Tail
pub mod Listing
pub mod Common

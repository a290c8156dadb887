pub mod Near
pub mod Crossing
pub mod Paths
pub mod Faults
pub mod Seen
pub mod Stops
pub mod Common

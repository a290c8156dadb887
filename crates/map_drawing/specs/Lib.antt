pub mod Points
pub mod Paths
pub mod Corners
pub mod Fineness
pub mod Common
pub mod Marks
pub mod Labels
pub mod Names

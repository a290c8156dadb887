pub mod Crossings
pub mod Rounding
pub mod Widths
mod SnapExamples
pub mod Rising
pub mod Searched
pub mod Linked
pub mod Conflicting
pub mod Led
pub mod Gathering
mod Examples
pub mod Common

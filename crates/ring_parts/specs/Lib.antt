pub mod Seen
pub mod Borders
pub mod Merges
pub mod Common

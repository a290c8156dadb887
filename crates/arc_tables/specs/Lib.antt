pub mod Edited
pub mod Rings
pub mod Sound
pub mod Stores
pub mod Users
pub mod Ways
pub mod Common

pub mod Status
pub mod Endings

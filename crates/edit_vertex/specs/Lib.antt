pub mod Kept
pub mod Tested
pub mod Untested
pub mod Common

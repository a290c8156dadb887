pub mod Conditions
pub mod Untested
pub mod Common

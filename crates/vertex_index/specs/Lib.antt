pub mod Mirrors
pub mod Places
pub mod Placement
pub mod Put
pub mod Common

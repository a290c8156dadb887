pub mod Places
pub mod Text
pub mod Told
pub mod Common

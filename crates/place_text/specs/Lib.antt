pub mod Owners
pub mod Places
pub mod Sides
pub mod Tables
pub mod Text
pub mod Common

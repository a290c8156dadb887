pub mod Covered
pub mod Covering
pub mod Held
pub mod Near
pub mod Odd
pub mod Told
pub mod Users
pub mod Common

pub mod Number
pub mod Written
pub mod Grid
pub mod Kept
pub mod Laws
pub mod Seen
pub mod Common

pub mod Listed
pub mod Placed
mod Examples

pub mod Along
pub mod Going
pub mod Cancelling
pub mod Bounds
pub mod Distinct
pub mod Parting
pub mod Laws
mod Examples

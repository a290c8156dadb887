pub mod Laid
pub mod Odd
pub mod Cancelled
pub mod Mended
pub mod Common

pub mod Stops
pub mod Endings
pub mod Advice
pub mod Words
pub mod Clashes
pub mod Common

pub mod Appending
pub mod Tests
pub mod Lists
pub mod Common

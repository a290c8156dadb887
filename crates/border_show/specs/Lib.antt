pub mod Status
pub mod Endings
pub mod Conflicts
pub mod Found
pub mod Maps
pub mod Shown
pub mod Asked
pub mod Given

pub mod Asked
pub mod Endings
pub mod Points
pub mod Geojson
pub mod Telling
pub mod Common
pub mod Told

pub mod Edits
pub mod Near
pub mod NearMove
pub mod Pairs
pub mod Spans
pub mod Tests
pub mod Common

pub mod Summing
pub mod Reach
pub mod Greatest
pub mod Scaled
pub mod NearAll
pub mod Naming
pub mod Points
pub mod Needing
mod DigitExamples
pub mod DigitLaws
pub mod Opened
pub mod NewTransform
pub mod WholeNumbers
pub mod AsWhole

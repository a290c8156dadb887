pub mod Triangles
pub mod Beside
pub mod Summing
pub mod StepByStep
pub mod AreasTold
mod AreaExamples
pub mod Stands
pub mod Pieces
pub mod Features
pub mod Whole
pub mod Settling
pub mod Stays
pub mod Unmended
pub mod Kept
pub mod Failing
pub mod Counting
mod Examples

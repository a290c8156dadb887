pub mod Powers
pub mod Values
pub mod Cutting
pub mod Zeros
pub mod RoundedUnits
pub mod Leading
pub mod Appending
pub mod Power
pub mod Written
mod DecimalExamples
pub mod Numbers
pub mod Wholes
pub mod Walking
pub mod Putting
pub mod Ranging
pub mod Fits
pub mod Finding
pub mod Changing
pub mod NewTexts
mod PointExamples
pub mod Common

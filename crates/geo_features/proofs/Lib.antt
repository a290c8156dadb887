pub mod Carrying
pub mod Naming
pub mod Walking
pub mod Listed
pub mod PointTexts
pub mod RingTexts
pub mod FeatureTexts
mod Examples

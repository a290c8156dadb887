pub mod FirstRefusal
pub mod SplitConditions
pub mod Late
pub mod RingConditions
pub mod MergeConditions
pub mod PathSegments
pub mod Recording

pub mod MapAnswers
pub mod Recording
pub mod StepSides
pub mod SidesKept
pub mod RingOrigins
pub mod BoxesKept
pub mod NearLemmas

pub mod Coordinates
pub mod Widening
pub mod BoxedRings
pub mod BoxesAround
pub mod BoxesHold
pub mod Shows
mod Rest
mod Sharers
mod Ascending
mod SharedBorders
mod OnBorders
mod Odds
mod Holding
mod Passing
mod PassedRings
mod PassedSegments
mod OddRings
mod Telling
mod Cancelling
mod Behind
mod NearRings
mod HeldFeatures
mod RingsCovered
pub mod Common

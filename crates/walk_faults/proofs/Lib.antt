pub mod Lists
pub mod Ascending
pub mod Filled
pub mod Neighbours
pub mod Walking
pub mod Boxes
pub mod Pairs
pub mod RingEdges
pub mod Opening
mod Examples
pub mod Common

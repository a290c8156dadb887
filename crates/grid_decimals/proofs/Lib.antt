pub mod Powers
pub mod Fewest
pub mod Shortest
pub mod Axes
pub mod Nearest
pub mod Padding
pub mod Trimming
pub mod Units
pub mod Grids
pub mod Laws
pub mod ReadBack
mod Examples
pub mod Common

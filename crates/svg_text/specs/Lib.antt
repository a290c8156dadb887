pub mod Escaping
pub mod Numbers
pub mod Elements
pub mod Common

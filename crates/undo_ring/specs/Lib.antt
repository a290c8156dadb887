pub mod Answers
pub mod Edited
pub mod Answered
pub mod Trails
pub mod Boxed
pub mod Common

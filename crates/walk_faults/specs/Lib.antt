pub mod Walks
pub mod Findings
pub mod Seen
pub mod Meeting
pub mod Opens
pub mod Common

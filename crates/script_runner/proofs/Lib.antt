pub mod ReplyLemmas
pub mod ListLemmas
pub mod LineLemmas
pub mod SendLemmas
pub mod StepLemmas
pub mod FeedLemmas
pub mod RunLemmas
pub mod OpenLemmas

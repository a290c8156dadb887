pub mod RuleLemmas
pub mod WordLemmas
mod Examples
pub mod FoundLemmas
pub mod MarkLemmas
pub mod NumberLemmas
pub mod ViewLemmas

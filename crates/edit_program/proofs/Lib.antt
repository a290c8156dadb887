pub mod WordLemmas
pub mod RuleLemmas
pub mod ListingLemmas

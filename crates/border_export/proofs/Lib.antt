pub mod RuleLemmas
pub mod WordLemmas
pub mod TextLemmas
mod Examples

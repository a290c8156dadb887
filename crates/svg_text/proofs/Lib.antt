pub mod Appending
pub mod TextLemmas

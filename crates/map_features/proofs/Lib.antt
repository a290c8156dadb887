pub mod LeastLemmas
pub mod WithinLemmas
pub mod QuotientLemmas
pub mod WindowLemmas
pub mod ShapeLemmas
pub mod NamingLemmas
pub mod ValueLemmas
pub mod RoundedLemmas
pub mod DigitLemmas
mod Examples
mod ExamplesTexts

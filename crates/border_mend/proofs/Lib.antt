pub mod WordLemmas
mod EndingExamples
mod GeojsonExamples

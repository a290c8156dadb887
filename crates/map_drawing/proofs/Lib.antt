pub mod MappedLists
pub mod ProductLemmas
pub mod NamedLemmas
pub mod LabelLemmas
pub mod LabelledLemmas
pub mod DrawnLemmas
pub mod PathLemmas
mod Examples

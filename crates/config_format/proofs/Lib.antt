pub mod DocumentLemmas
pub mod ListLemmas

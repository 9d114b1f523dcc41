pub mod ByTagLemmas
pub mod ReadLemmas
pub mod RowLemmas

pub mod ReadLemmas
pub mod TextLemmas
pub mod ValueLemmas

-- what became of a quote, by the page and by the rules
pub mod Outcomes
-- until when it was live
pub mod Lifetimes

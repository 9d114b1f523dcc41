pub mod ByDue
pub mod Readings
pub mod Keeping
pub mod Leaving
pub mod DelayFacts
mod Among

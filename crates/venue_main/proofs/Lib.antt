mod Places
pub mod Counts
pub mod Outcomes
pub mod Closed
pub mod Recorded

pub mod Applications
pub mod Messages

pub mod Found
pub mod Paired

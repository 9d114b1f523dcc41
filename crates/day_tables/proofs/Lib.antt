pub mod Walks
pub mod Prices
pub mod Volumes

pub mod Link
pub mod Endings
pub mod Events
pub mod Passed

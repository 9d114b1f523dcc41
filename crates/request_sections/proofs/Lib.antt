pub mod Covers
pub mod Filing
pub mod Rising
pub mod Appends

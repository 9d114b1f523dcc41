pub mod Links
pub mod Emitted

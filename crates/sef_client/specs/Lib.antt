pub mod Heard
pub mod Sent
pub mod Emitted

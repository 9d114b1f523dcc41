pub mod Scanning
pub mod Filling
pub mod Decoded

pub mod Stating
pub mod Places
pub mod Showing
pub mod Numbering

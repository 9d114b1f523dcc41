pub mod Fits
pub mod Kinds
pub mod Lent
pub mod Text
pub mod Values

pub mod Dictionaries
pub mod Faults
pub mod Fields
pub mod Laws
pub mod Layout
pub mod MessageTypes
pub mod Values

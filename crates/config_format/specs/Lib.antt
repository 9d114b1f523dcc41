-- the form of names and symbols
pub mod Names
-- the values of a TOML document at its keys
pub mod Document
-- distinct rows
pub mod Rows

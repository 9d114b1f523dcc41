-- entries as the reader sees them, and as data
pub mod Lists
-- a cause and the number of a refusal
pub mod Agreement
-- the first entry with a fault
pub mod Firsts
-- the line on a text
pub mod Lines

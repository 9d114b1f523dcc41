-- the form of symbols
pub mod Symbols
-- the rules of the rows of a file
pub mod Rows
-- the values of an instrument in the file
pub mod Listing
-- other delays for the instruments of a file
pub mod Delays
-- the numbers of a TOML document at its keys
pub mod Numbers
-- the reading of a file, and its faults
pub mod Reading

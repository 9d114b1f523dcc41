-- a sentence as parts
pub mod Parts
-- a message in words, and its kind
pub mod Words
pub mod Kinds
-- a message as FIX has it
pub mod Visible
-- the lines of a row of a trail
pub mod RowLines
-- rows of a table for a spreadsheet
pub mod Cells
-- objects of JSON
pub mod Json

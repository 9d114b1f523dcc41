-- the form of names
pub mod Names
-- the content of the file
pub mod ParticipantFile
-- the rules of the rows of a file
pub mod Rows
-- the reading of a file, and its faults
pub mod Reading
-- the related participants, and which recipients suffice
pub mod Relations
-- the relations as a table
pub mod Table

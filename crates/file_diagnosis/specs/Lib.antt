-- the faults of parts and entries, and the first entry with one
pub mod Causes
-- the cause of a refused participant file
pub mod Participants
-- the cause of a refused instrument file
pub mod Instruments
-- the numbers of refusals
pub mod Numbers
-- the first entry with a fault
pub mod First
-- the line on a cause, in words
pub mod Line
-- the lines of a text
pub mod Lines

-- what a participant sent and was owed, row by row
pub mod Turns
-- what is kept of it
pub mod Kept
-- what each message changes
pub mod Noting
-- the figures, and their text
pub mod Figures
-- rows that are replayed one after another
pub mod Replayed
-- what is printed
pub mod Emitted
-- what every day keeps
pub mod Laws

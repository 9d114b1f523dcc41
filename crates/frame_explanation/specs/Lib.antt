-- a whole explanation: the first to read
pub mod Explanation
-- its text
pub mod Text
pub mod Summary
pub mod Falls
pub mod Ignored
pub mod Bodies
pub mod Broken
pub mod Names
pub mod Parts
-- what is found in a log, and what is listed of it
pub mod Frames
pub mod Listing
pub mod Pieces
-- what is answered
pub mod Hearing

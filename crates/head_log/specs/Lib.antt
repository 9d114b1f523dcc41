-- the head of a trail
pub mod Heads
-- its line
pub mod Line
-- what contracts see of a journal with heads
pub mod Keeper

-- events: requests, quotes, orders and trades
pub mod EventKinds
-- what rested before the filled order
pub mod Standing
-- what had become of the quotes in a room
pub mod QuoteNotes
-- the lines about it
pub mod NoteLines
-- events by key
pub mod Indexed
-- the events of a day, row by row
pub mod Emitted
-- notes of trades in order
pub mod Notes
-- three unrelated recipients
pub mod Unrelated
-- the lines of the evidence for a trade
pub mod Lines
-- what is found of a trade
pub mod Found
-- laws of every day
pub mod Laws

-- kinds of refusals
pub mod Refused
-- counts of reports
pub mod Counting
-- the participants that the rooms refer to
pub mod Known
-- readings of a plan and a room
pub mod Read
-- replies, by the symbol of their room
pub mod Sent
-- replies to a quote
pub mod Quoted
-- replies to a quote response
pub mod Responded

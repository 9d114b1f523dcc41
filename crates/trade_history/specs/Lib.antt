-- readings of a day's trades
pub mod Traded
-- readings of a day's rooms
pub mod Quoted
-- the numbers that facts of rooms have
pub mod Numbered
-- the rooms read off a history
pub mod ReadOf
-- the rooms as kept, by number
pub mod ByNumber

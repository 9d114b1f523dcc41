-- the bounds of the alarms, and the file that states them
pub mod Thresholds
-- identifiers of participants
pub mod Names
-- what is kept by number
pub mod Numbers
-- where orders entered and trades were reported
pub mod Index
-- the best prices that each request was shown
pub mod ShownBest
pub mod Kept
-- what is counted of each participant
pub mod Deeds
-- the next order after one that was refused as too recent
pub mod Again
-- the alarms
pub mod Alarms
-- trades of linked orders
pub mod Pairs
-- their text, and what is written
pub mod Texts
pub mod Printed

-- values of the places, and the numbers of rows
pub mod Values
-- what is counted and picked of a day's events
pub mod Counts
pub mod Rooms
pub mod Numbers
pub mod Picks
-- long lists in folds
pub mod Folds
-- the day in six figures
pub mod Figures
-- trades, by their reports, and which are of linked orders
pub mod Flags
pub mod Reports
pub mod Trades
-- refusals by cause
pub mod Refusals
-- participants
pub mod People
-- each trade has a report at its place
pub mod Found
-- folds leave nothing out
pub mod Whole

pub mod Walks
pub mod Counting
pub mod ByCause
-- each trade has a report at its place
mod Found
-- flags of trades
mod Flagged
-- folds leave nothing out
mod Whole

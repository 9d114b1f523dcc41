-- the sender of a message
pub mod Senders
-- counts of reports and trades
pub mod Counting

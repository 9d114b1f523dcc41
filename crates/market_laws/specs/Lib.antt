-- requests for quotes, traded or not
pub mod Asking
-- quotes of the recipients of a request
pub mod Quoting
-- the two sides of a trade in the book
pub mod BookTrades
-- snapshots of the book, for every participant
pub mod Access
-- resting orders can be traded with
pub mod Hitting
-- the same participants under other places and other names
pub mod Renaming
-- the book that an input changes
pub mod OneBook
-- orders and crosses under identifiers that their sender used
pub mod Duplicates
-- the reports of trades, in their order
pub mod TradeReports

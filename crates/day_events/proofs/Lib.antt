pub mod Appending
pub mod Walking
pub mod Pricing
-- an instrument of a file is found by its symbol
mod Listing
-- the events of a day report its trades
mod TradeEvents

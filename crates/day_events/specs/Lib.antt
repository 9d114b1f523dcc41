-- what the answer to a row says
pub mod Events
-- the prices shown with a quote
pub mod ShownPrices
-- the best prices after each row
pub mod Bests
-- what the answers of a day say
pub mod Days
-- the events that report trades
pub mod TradeEvents

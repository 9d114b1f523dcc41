pub mod Making
pub mod Walks
-- each trade is charted
mod EachTrade

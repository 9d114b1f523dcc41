-- trades, as a chart shows them, and the range of prices
pub mod Deals
pub mod Prices
pub mod Values
-- the parts of a chart and of a book, and the section
pub mod Glyphs
pub mod Volumes
pub mod Lines
pub mod Ladders
pub mod Rests
pub mod Instruments
-- each trade is charted
pub mod EachTrade

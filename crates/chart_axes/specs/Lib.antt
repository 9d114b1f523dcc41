-- a range of prices, and where a moment and a price are on a chart
pub mod Ranges
pub mod Scales
-- the labels of its axes
pub mod Ticks

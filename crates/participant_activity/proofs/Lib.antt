-- the turns of a day
pub mod Turning
-- messages without their prices
pub mod Unpriced
-- the ends of quotes
pub mod Ends
-- rows that are replayed one after another
pub mod RowByRow
-- the text
pub mod Texts
-- worked examples
pub mod ExampleDays
pub mod Examples

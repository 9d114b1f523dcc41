-- the line of a trade, its row, and the output of a day
pub mod Line
pub mod Table
pub mod Printing
-- laws of every day
pub mod Laws

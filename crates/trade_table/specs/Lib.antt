-- how a trade was made, read off the replies at a row
pub mod Sources
-- and of a day, row by row
pub mod Executions
-- the fields and the table
pub mod Table
-- the law of every day
pub mod Laws

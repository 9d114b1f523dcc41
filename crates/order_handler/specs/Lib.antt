-- an answer in its parts
pub mod Parts
-- histories with a given book, held sides and counts, and readings of them
pub mod Reads
-- plans that may be applied, in listed instruments
pub mod Made
-- replies that are reports
pub mod Counting
-- the answer to an entering order, by what is read for it
pub mod Entered
-- the reports of an entering order, one after another
pub mod Reports
-- conditions of an order that may enter, or replace another
pub mod Asked
pub mod Changed
-- conditions of a request for market data
pub mod Shown

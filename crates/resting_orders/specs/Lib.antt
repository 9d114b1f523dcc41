-- what the answers say of orders that enter
pub mod Noting
-- what each input changes of the held sides
pub mod Holding
-- the requests for quotes that each input opens and closes
pub mod Asking
-- the quotes that each input makes, and those that are live
pub mod Quoting
-- that it agrees with the facts
pub mod Laws
-- a venue after rows, with what is kept
pub mod Replayed
-- orders that rest, with their owners
pub mod Resting
-- the book of an instrument
pub mod Book
-- what rests, is held or is open, participant by participant
pub mod Rests

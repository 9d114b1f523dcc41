-- The rules of the venue, in reading order.
-- the files, and who is related to whom
pub mod Market
-- the small market of the examples
pub mod Fixture
-- facts, and what is read off them
pub mod Facts
-- the order book: leaves quantities, resting orders, fills, snapshots
pub mod Book
-- requests for quotes: open rooms, live quotes
pub mod Rooms
-- readings of trades and rooms
pub mod Readings
-- held sides of crosses
pub mod Delay
-- the form of an answer
pub mod Answer
-- an order enters the book
pub mod Entering
-- answers, a file for one message type or two
pub mod Orders
pub mod Changes
pub mod Crosses
pub mod Requests
pub mod Quotes
pub mod Withdrawals
pub mod Responses
pub mod MarketData
-- the answer to any message
pub mod Answers
-- the message of each reply
pub mod Messages
-- the venue over a list of inputs
pub mod Run
-- the effect of further inputs
pub mod MoreInputs
-- addressees of replies
pub mod Addressees
-- reports over a list of inputs
pub mod Reported
-- the inputs that rows stand for
pub mod ReadBack
-- the laws of every list of inputs
pub mod Lawful
pub mod RoomTrades
-- limits of inputs whose moments do not fall
pub mod Limits
-- leaves and filled quantities stay amounts
pub mod Amounts
-- promises of a row store
pub mod Kept

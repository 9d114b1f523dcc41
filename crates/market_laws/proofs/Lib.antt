-- the circumstances of each fact that an answer adds
mod Sources
mod SourcesEach
-- the input that added a fact, and what it did
mod Added
-- each request goes to three participants
mod Asked
-- each trade in the book is between the owners of its two orders
mod BookTrades
-- a valid quote is taken, and each recorded one sent on
mod Quoting
-- one book for all
mod Access
-- resting orders can be traded with
mod Hitting
-- nobody is sent a request but its recipients
mod Sent
-- the same with renamed participants: lists, what is read off the facts, answers, runs
mod RenamedLists
mod RenamedFacts
mod RenamedAnswers
mod Renamed
-- cases that meet the premises of the laws
mod Examples
-- a renaming: two participants in each other's places
mod SwapExample
-- facts that leave the resting orders of an instrument as they are, and the answers of which they are
mod OneBook
mod OneBookEach
-- a duplicate's report names what rests
mod Duplicates
-- the reports of the trades of each answer, and of a run
mod TradeReports

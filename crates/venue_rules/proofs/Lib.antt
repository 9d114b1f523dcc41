-- Worked examples of the definitions of specs/, and the proof that every list of inputs is lawful.
-- spelling of messages in the examples
pub mod Spelling
-- the venue and the messages of the examples
pub mod ExampleInputs
pub mod FixtureExamples
pub mod BookExamples
pub mod DelayExamples
pub mod FillExamples
pub mod RoomExamples
pub mod QuoteExamples
pub mod LimitExamples
pub mod FullExamples
pub mod LawfulExamples
pub mod RefusalExamples
pub mod PrecedenceExamples
pub mod CornerExamples
-- members of lists, and numbers that are places
pub mod Members
-- what may follow a list of facts
pub mod Follows
pub mod Trading
-- the ranked list of resting orders, its filters and its order
pub mod Ranks
-- the resting orders after a further fact
pub mod Lefts
-- an entering order trades with the best resting order at each step
pub mod Fills
-- leaves quantities after the trades of an entering order
pub mod Own
-- the first of the ranked orders is the best
pub mod Best
-- an order that comes to rest goes before the first that it beats
pub mod Puts
-- a quote found in place is live
pub mod Hits
-- the facts of each answer follow
pub mod FollowsEach
-- a request goes to all its recipients in one answer
pub mod Together
pub mod TogetherEach
-- the reports of an answer have the next numbers, and report its trades
pub mod Reports
pub mod ReportsEach
pub mod EveryReport
-- over every list of inputs each fact follows those before it; the laws
pub mod EveryRun
pub mod EveryRoomTrade
-- only listed instruments have orders, so linked orders in a market of files wait at least a second
pub mod Listed
-- a room closes right after its trade, so it trades once
pub mod Shut
pub mod ShutEach
pub mod OneTrade
-- only a request opens a room, so few are open
pub mod OpenRooms
pub mod OpenRoomsEach
-- a participant has at most one live quote in each open room
pub mod LiveQuotes
-- a withdrawal sends each participant at most one reply a quote
pub mod Emitted
-- further inputs
pub mod MoreInputLemmas
-- an order comes to rest only below capacity, so few orders rest on a side
pub mod ShortSides
pub mod ShortSidesEach
-- one input sends each participant few replies
pub mod FewReplies
pub mod AmountLemmas
-- every reply goes to a participant
pub mod Addressed
pub mod NameLemmas
pub mod RowLemmas

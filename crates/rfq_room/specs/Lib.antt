-- the facts of a venue's rooms
pub mod RoomFacts
-- readings of a fact, and the first test of a list that holds
pub mod Views
-- the room of a quote
pub mod Named
-- the decision on each request
pub mod Causes
-- refusals
pub mod Refusals
-- the additions of a request
pub mod Plan
pub mod Plans
-- the contents of the rooms and their invariant
pub mod Contents
pub mod RoomStore
-- the steps of rooms
pub mod Steps
-- the venue's answers, by the decisions of its rooms
pub mod Emitted
-- what is kept of the facts
pub mod Flags
pub mod LastQuotes
pub mod Flagged
pub mod Numbered
pub mod Openness
pub mod Standing

-- the steps of rooms, as events say them and as facts do
mod Steps
-- the events of each answer say what its facts do
mod EachAnswer
-- and the events of a day
mod EachDay
-- what became of a quote, by steps
mod Becoming
-- a quote that is not its maker's last in its room
mod Lasts
-- what became of a quote, by the steps of facts
mod ByFacts
-- and by the rules
mod Agreeing
-- the moments of events, and the first moment of a step
mod Moments
-- until when a quote was live, by the rules
mod Living
-- each recorded quote has its event
mod Listing

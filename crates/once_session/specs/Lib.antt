-- a whole run: the first to read
pub mod Stream
-- the acts of a run
pub mod Acts
-- facts about a stopped run
pub mod Outcome
-- why an event's fault stops a run
pub mod Faults
-- a part of a run
pub mod Course
-- reading a stream
pub mod Reading

-- the market of the files
pub mod Files
-- the model of a venue
pub mod State
-- the histories of a venue's state
pub mod VenueFacts
-- the reading of a room's first quote
pub mod Read
-- the additions of an input, and their conditions
pub mod Plan
-- inputs taken one after another
pub mod Taking
-- the inputs of rows, as they are replayed
pub mod Replay

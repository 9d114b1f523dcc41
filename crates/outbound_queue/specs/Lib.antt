-- inputs taken from a participant
pub mod Taken
-- replies owed to a participant, and those that wait
pub mod Owed

-- the text of a message and of a reply, as lines, as rows of a table and as objects of JSON
pub mod Entries
-- the life of an order, and the conversation of a room
pub mod Life
pub mod Talk
-- which rows are printed
pub mod Sought
-- the text of a day
pub mod Emitted
-- what a participant is owed, each message with its row
pub mod Owed
-- what every day keeps
pub mod Laws

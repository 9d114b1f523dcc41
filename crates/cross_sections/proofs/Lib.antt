-- the type of a message
mod Typing
-- the messages of rows
mod Readings
-- a line, part by part
mod Lines

-- a reason, as the definitions of the messages have it
pub mod Reasons

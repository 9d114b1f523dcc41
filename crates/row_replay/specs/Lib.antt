-- the inputs of a trail's rows
pub mod Inputs
-- a request for the prices of an instrument, and what it shows
pub mod Asking
-- what every day keeps
pub mod Laws

-- by what events are filed, and those of a room
pub mod Keys
pub mod Picks
-- what became of a quote, and what was shown with the first
pub mod Fate
pub mod Lives
pub mod Prices
pub mod Shown
-- what was refused
pub mod Refused
-- the section
pub mod Requests

-- the crosses of a day
pub mod Crosses
-- their section
pub mod Section

-- results of a search
pub mod Search
-- names and their order
pub mod ClientIds
-- the model of an index of names
pub mod Held
-- names that take fewer bytes
pub mod Short
-- the model of used names
pub mod Used
-- the bytes of a name as fed to a hasher
pub mod Pieces

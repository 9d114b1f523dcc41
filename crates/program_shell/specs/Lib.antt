-- the first bytes of a trail's file
pub mod Database
-- why a trail ends a program
pub mod TrailEnd

-- where a byte stands, and the tags of a text
pub mod Spots
-- how a value is escaped and read back
pub mod Escapes
pub mod ReadBack
-- parts of a template, filled
pub mod Parts
pub mod Texts
-- laws of every page
pub mod Laws

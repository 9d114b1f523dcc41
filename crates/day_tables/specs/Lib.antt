-- values of the places of a page, lists of parts, and lists made one thing after another
pub mod Values
pub mod Parts
pub mod Lists
-- the daily bulletin, and its law
pub mod Bulletin
pub mod Laws

-- conditions of a cross, before the book is asked
pub mod Crossing
-- the entry of a held side
pub mod EnteringWhenDue

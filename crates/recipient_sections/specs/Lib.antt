-- three who are unrelated, and whom a request asked
pub mod Threes
pub mod Asked

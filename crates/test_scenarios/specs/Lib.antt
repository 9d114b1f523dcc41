-- what a trail holds that refuses one row
pub mod Faulty

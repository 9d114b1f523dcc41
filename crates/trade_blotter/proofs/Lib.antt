pub mod Lists
pub mod Prices
pub mod Examples
pub mod Rows
pub mod Rooms

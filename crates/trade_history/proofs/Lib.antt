pub mod Lists
pub mod TradeNumbers
pub mod Finding
pub mod RoomNumbers
pub mod RoomReads
pub mod ByNumber

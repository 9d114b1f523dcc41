pub mod RowByRow
pub mod OwedMessages
pub mod Members
pub mod Said
pub mod Stating
pub mod Whole

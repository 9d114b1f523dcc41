pub mod Asked
pub mod Digits
pub mod UnderHead

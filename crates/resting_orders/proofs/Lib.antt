pub mod Members
pub mod Entering
pub mod HeldSides
pub mod Requesting
pub mod OwnQuotes
pub mod RowByRow
pub mod Booking
pub mod Printing

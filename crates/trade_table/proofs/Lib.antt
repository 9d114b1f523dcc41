pub mod Walking
pub mod Printed
pub mod Rows
pub mod Learning
pub mod Crossing
pub mod Reported
pub mod Executed

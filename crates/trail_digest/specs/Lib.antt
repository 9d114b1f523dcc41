pub mod Trail
pub mod Chain
pub mod Laws
pub mod Printed
pub mod Head
pub mod Comparison

-- the rows, the head, and the page
pub mod Folds
pub mod Rows
pub mod Sections
-- what is written
pub mod Printed

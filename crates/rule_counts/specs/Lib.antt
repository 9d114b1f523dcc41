-- what is counted, and the section
pub mod Counts
pub mod Rules

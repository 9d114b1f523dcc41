pub mod Turning
pub mod Answering
pub mod EnteringWhenDue
pub mod Making

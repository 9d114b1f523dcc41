pub mod Firsts
pub mod Waiting
pub mod Linked
pub mod Texts
pub mod Meant
pub mod Prints

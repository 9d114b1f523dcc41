mod Counted
mod Faults
mod Texts

-- the entries of a past
pub mod Past

-- three unrelated recipients of a request, and the related pairs of those whom it names
pub mod Threes
pub mod Pairs

-- the facts of a venue's held sides
pub mod DelayFacts
-- readings of a fact
pub mod Views
-- the additions of a request
pub mod Plan
pub mod Plans
-- the contents and their invariant
pub mod Contents
pub mod Kept
-- the steps of held sides
pub mod Steps
-- what is kept of the facts: held sides and used identifiers
pub mod ByDue
pub mod Used
pub mod Standing

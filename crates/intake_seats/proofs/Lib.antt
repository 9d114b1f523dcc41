pub mod Moves
pub mod HanderSteps
pub mod TakerSteps
pub mod Dealing
pub mod NewEnds
pub mod Closing
pub mod BothEnds

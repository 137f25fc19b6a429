pub mod Ruled
pub mod Sourced
pub mod ReadSteps
pub mod Stepped
pub mod ReadBound
pub mod Offsets

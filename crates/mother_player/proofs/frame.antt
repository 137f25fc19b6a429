pub mod Laws
pub mod Place
pub mod Counts
pub mod Kept

pub mod Laws
pub mod Counts
pub mod Kept
pub mod Place
pub mod Sounding
pub mod Left
pub mod Alike

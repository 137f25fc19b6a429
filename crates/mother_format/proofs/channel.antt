pub mod Sizes
pub mod Plays
pub mod Stretch

pub mod Walked
pub mod PassBound
pub mod PassLoop
pub mod Offsets
pub mod FirstStop

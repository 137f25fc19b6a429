pub mod Picks
pub mod Fuel
pub mod Buffers
pub mod Channels

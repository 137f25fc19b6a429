pub mod Running
pub mod Settling
pub mod Framing
pub mod Starting
pub mod Foreseen

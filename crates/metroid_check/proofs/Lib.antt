pub mod ahead
pub mod Found
pub mod Run
pub mod Demand3
pub mod Passes
pub mod Countdown
pub mod Alike

pub mod Verdict
pub mod Run
pub mod Countdown
pub mod Demand3

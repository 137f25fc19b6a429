pub mod Walk
pub mod Settings
pub mod Reading
pub mod Faults
pub mod Verdict
pub mod Run
pub mod Extremes
pub mod First

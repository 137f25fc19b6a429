pub mod Member
pub mod Opened
pub mod clean
pub mod first
pub mod run

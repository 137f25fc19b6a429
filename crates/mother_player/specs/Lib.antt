pub mod Record
pub mod Release
pub mod Ctrl1
pub mod Event
pub mod Reading
pub mod Frame

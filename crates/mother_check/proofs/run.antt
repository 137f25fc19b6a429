pub mod Standing
pub mod Reading
pub mod Block
pub mod Turn
pub mod Frames
pub mod Never

pub mod Bank
pub mod Transpose
pub mod Envelope
pub mod Header
pub mod Playlist
pub mod Command
pub mod Straight
pub mod Channel

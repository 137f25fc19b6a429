pub mod Command
pub mod Words
pub mod Mend
pub mod Bank
pub mod Header
pub mod Channel
pub mod Timeline

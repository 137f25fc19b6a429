pub mod Laws
pub mod Readable
pub mod Changes
pub mod Owed
pub mod Examples

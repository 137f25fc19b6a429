pub mod Order
pub mod Offsets
pub mod InOrder
pub mod Rank
pub mod Tests
pub mod Tried

pub mod Laws
pub mod RoundTrip
pub mod Within
pub mod Owed
pub mod Examples

pub mod Spans
pub mod Laws
pub mod Spanned

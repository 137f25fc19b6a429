pub mod Decimal
pub mod Hex
pub mod Line
pub mod Verdict
pub mod Answer
pub mod Mother

pub mod Decimal
pub mod Spans
pub mod Pieces
pub mod Sameness
pub mod Numerals
pub mod Writing
pub mod Theorems
pub mod Examples

pub mod Counting
pub mod Rows
pub mod Writing
pub mod Theorems
pub mod Examples

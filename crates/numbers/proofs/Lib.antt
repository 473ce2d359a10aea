pub mod Decode
pub mod Encode
pub mod Theorems
pub mod Examples
pub mod Reading
pub mod Writing

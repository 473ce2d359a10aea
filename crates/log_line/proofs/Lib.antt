pub mod Taking
pub mod Calls
pub mod Filling
pub mod Limiting
pub mod Keywords

pub mod Splitting
pub mod Growing
pub mod Measuring
pub mod Storing
pub mod Responding
pub mod Theorems

pub mod Changing
pub mod Theorems

pub mod Waking
pub mod Stepping

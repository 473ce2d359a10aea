pub mod Lines
pub mod Records
pub mod Measuring
pub mod Putting
pub mod Printing
pub mod Responding
pub mod Places

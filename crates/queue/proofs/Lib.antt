pub mod Places
pub mod Entries
pub mod Joining
pub mod Time
pub mod Examples

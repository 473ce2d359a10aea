pub mod Sound
pub mod Writing
pub mod Walking
pub mod Surveying
pub mod Granting
pub mod Releasing
pub mod Finding

pub mod Wrote
pub mod Fill
pub mod Puts

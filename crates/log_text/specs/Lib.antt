pub mod Form
pub mod Reading
pub mod Printing
pub mod Canonical
pub mod Reasons

pub mod Ascii
pub mod Decimal
pub mod Words
pub mod Steps

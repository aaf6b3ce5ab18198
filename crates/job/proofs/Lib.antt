pub mod Reading
pub mod Turns

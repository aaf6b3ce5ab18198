pub mod Entries
pub mod Adding

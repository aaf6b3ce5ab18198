pub mod Entries
pub mod Bodies
pub mod Readers

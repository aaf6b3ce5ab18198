pub mod Faults
pub mod Judged
pub mod Keys
pub mod Lawful
pub mod Listed
pub mod Marks
pub mod Opened

pub mod Numbers
pub mod Runs
pub mod Fields
pub mod Faults
pub mod Longest

pub mod Looks
pub mod Starts
pub mod Numbers
pub mod Steps
pub mod Rows
pub mod Whole

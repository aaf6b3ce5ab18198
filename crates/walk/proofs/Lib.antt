pub mod Listing
pub mod Levels
pub mod Walking
pub mod Numbers
pub mod Letters

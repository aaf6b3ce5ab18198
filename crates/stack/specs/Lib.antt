pub mod Bounds
pub mod Frames
pub mod Searches

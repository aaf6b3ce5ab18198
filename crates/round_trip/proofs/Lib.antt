pub mod Turns
pub mod Names
pub mod Pieces
pub mod Taken
pub mod Chapters
pub mod Walks
pub mod Lawful
pub mod Lengths

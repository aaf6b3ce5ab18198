pub mod Chapters
pub mod Laws
pub mod Examples

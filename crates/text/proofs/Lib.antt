pub mod Walks
pub mod Soundness
pub mod FirstName
pub mod Adds

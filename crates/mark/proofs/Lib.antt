pub mod Copies
pub mod Judgement
pub mod Search

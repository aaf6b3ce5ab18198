pub mod Weighed
pub mod Answers

pub mod Known
pub mod Weighing
pub mod Tables
pub mod Agreeing
pub mod Answered

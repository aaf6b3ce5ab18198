pub mod Lines
pub mod Written
pub mod Fields
pub mod Sinks
pub mod Laws

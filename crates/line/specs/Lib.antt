pub mod Fields
pub mod Faults
pub mod Lines
pub mod Said

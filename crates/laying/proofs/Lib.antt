pub mod Nets
pub mod Plans
pub mod Starts

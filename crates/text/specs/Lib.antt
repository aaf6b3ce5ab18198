pub mod Pages
pub mod Nets
pub mod Faults
pub mod Taking
pub mod Held
pub mod Sound

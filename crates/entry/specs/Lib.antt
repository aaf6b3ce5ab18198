pub mod Names
pub mod Named
pub mod Bodies
pub mod Rules
pub mod Faults

pub mod Proper
pub mod Performed

pub mod Orders
pub mod Terms
pub mod Letters
pub mod Runs
pub mod Best
pub mod Ways
pub mod Laws

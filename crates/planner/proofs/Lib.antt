pub mod Steps
pub mod Best
pub mod Extend
pub mod Table
pub mod Whole
pub mod Laws
pub mod Agreement
pub mod Only

pub mod Row
pub mod Laws
pub mod Tested
pub mod Opened

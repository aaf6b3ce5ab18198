pub mod Sheets
pub mod Histories
pub mod Looking
pub mod Nexts
pub mod Stacks

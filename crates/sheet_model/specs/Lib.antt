pub mod Strip
pub mod Sheet
pub mod History
pub mod Accounts
pub mod Stack

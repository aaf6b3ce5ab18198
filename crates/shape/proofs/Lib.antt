pub mod Same
pub mod Derive
pub mod Table
pub mod Going
pub mod Judged

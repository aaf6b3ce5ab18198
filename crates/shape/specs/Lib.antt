pub mod Kinds
pub mod Shape
pub mod Grammar
pub mod Follow
pub mod States
